-- Twins: two vertices that can be exchanged.
--   AreTwins g u v         == each vertex other than u and v has as many edges to u as to v
--   exchange u v w         == v at u, u at v, and w itself at any other vertex w
--   exchanged u v D        == the amounts D with those of u and v exchanged
--   ExchangeKeepsWinnable  == if D is winnable, it is so once the amounts of two twins are exchanged
use Rattle.std.specs.Prelude.{◌≡◌, ◌≢◌, ℕ, ◌<◌, ◌==◌, if◌then◌else◌}
use Rattle.dg_theory.specs.Multigraph.{Multigraph, IsMultigraph, edges_between}
use Rattle.dg_theory.specs.Firing.{Amounts}
use Rattle.dg_theory.specs.Play.{IsWinnable}

abbrev pub AreTwins : Multigraph → ℕ → ℕ → Type 0
AreTwins g u v = (w : ℕ) → w ≢ u → w ≢ v → edges_between g u w ≡ edges_between g v w

abbrev pub exchange : ℕ → ℕ → ℕ → ℕ
exchange u v w = if w == u then v else (if w == v then u else w)

abbrev pub exchanged : ℕ → ℕ → Amounts → Amounts
exchanged u v D w = D (exchange u v w)

abbrev pub ExchangeKeepsWinnable : Type 0
ExchangeKeepsWinnable = (g : Multigraph) (D : Amounts) (u v : ℕ) → IsMultigraph g → u < g.size →
    v < g.size → AreTwins g u v → IsWinnable g D → IsWinnable g (exchanged u v D)
