-- The laws of firing, for every multigraph, divisor, script and vertex. The functions of
-- src/laws.rt promise them.
--   FiringAddsUp       == to fire by s and then by t is to fire by their sum
--   ConstantsDoNothing == a script that is the same at every vertex changes no amount
--   DifferByConstant   == two scripts give the same amounts exactly if they differ by a
--                         constant
--   FiringKeepsDegree  == firing keeps the degree
use Rattle.std.specs.Prelude.{◌≡◌, ℕ, ◌↔◌, ℤ, ◌+ℤ◌}
use Rattle.dg_theory.specs.Multigraph.{Multigraph, IsMultigraph}
use Rattle.dg_theory.specs.Firing.{Amounts, degree, DivisorsAgreeOn, fired}

abbrev pub FiringAddsUp : Type 0
FiringAddsUp = (g : Multigraph) (D s t : Amounts) (v : ℕ) →
    fired g (fired g D s) t v ≡ fired g D (λ w. s w +ℤ t w) v

abbrev pub ConstantsDoNothing : Type 0
ConstantsDoNothing =
    (g : Multigraph) (D s : Amounts) (x : ℤ) → DivisorsAgreeOn g.size s (λ _. x) →
    DivisorsAgreeOn g.size (fired g D s) D

abbrev pub DifferByConstant : Type 0
DifferByConstant = (g : Multigraph) (D s t : Amounts) → IsMultigraph g →
    (DivisorsAgreeOn g.size (fired g D s) (fired g D t) ↔ ((x : ℤ) × DivisorsAgreeOn g.size s (λ v. t v +ℤ x)))

abbrev pub FiringKeepsDegree : Type 0
FiringKeepsDegree = (g : Multigraph) (D s : Amounts) → IsMultigraph g →
    degree g.size (fired g D s) ≡ degree g.size D
