-- What exists in every multigraph, for amounts of any size (Baker and Norine 2007, section 3; Corry
-- and Perkinson, chapters 3 and 5). The functions of src/laws.rt promise it.
--   ReducedExists      == every divisor can be fired to one that is reduced for q, by a script that is
--                         0 at q
--   WinnableFromGenus  == a divisor whose degree is at least the genus is winnable
use Rattle.std.specs.Prelude.{◌≡◌, ℕ, ◌<◌, pos, ◌≤ℤ◌}
use Rattle.dg_theory.specs.Multigraph.{Multigraph, IsMultigraph, genus}
use Rattle.dg_theory.specs.Firing.{Amounts, degree, fired}
use Rattle.dg_theory.specs.Play.{IsWinnable}
use Rattle.dg_theory.specs.Reduced.{IsReduced}

abbrev pub ReducedExists : Type 0
ReducedExists = (g : Multigraph) (q : ℕ) (D : Amounts) → IsMultigraph g → q < g.size →
    (s : Amounts) × (s q ≡ pos 0) × IsReduced g q (fired g D s)

abbrev pub WinnableFromGenus : Type 0
WinnableFromGenus = (g : Multigraph) (D : Amounts) → IsMultigraph g → 0 < g.size →
    genus g ≤ℤ degree g.size D → IsWinnable g D
