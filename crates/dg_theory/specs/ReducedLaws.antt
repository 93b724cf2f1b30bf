-- The laws of reduced divisors, for every multigraph and divisor (Baker and Norine 2007, section
-- 3.1; Corry and Perkinson, chapter 3). The functions of src/laws.rt promise them.
--   ReducedIsUnique   == equivalent divisors that are both reduced for q agree on the vertices
--   ReducedDecides    == a divisor is winnable exactly if the reduced divisor that it is equivalent
--                        to is not in debt at q
--   ReducedBelowGenus == a divisor that is reduced for q and in debt at q has a degree below the
--                        genus (section 3; chapter 5)
use Rattle.std.specs.Prelude.{ℕ, ◌<◌, ◌↔◌, pos, ◌≤ℤ◌, ◌<ℤ◌}
use Rattle.dg_theory.specs.Multigraph.{Multigraph, IsMultigraph, genus}
use Rattle.dg_theory.specs.Firing.{Amounts, degree, DivisorsAgreeOn, AreEquivalent}
use Rattle.dg_theory.specs.Play.{IsWinnable}
use Rattle.dg_theory.specs.Reduced.{IsReduced}

abbrev pub ReducedIsUnique : Type 0
ReducedIsUnique = (g : Multigraph) (q : ℕ) (D E : Amounts) → q < g.size → AreEquivalent g D E →
    IsReduced g q D → IsReduced g q E → DivisorsAgreeOn g.size D E

abbrev pub ReducedDecides : Type 0
ReducedDecides = (g : Multigraph) (q : ℕ) (D R : Amounts) → q < g.size → AreEquivalent g D R →
    IsReduced g q R → (IsWinnable g D ↔ (pos 0 ≤ℤ R q))

abbrev pub ReducedBelowGenus : Type 0
ReducedBelowGenus = (g : Multigraph) (q : ℕ) (R : Amounts) → IsMultigraph g → q < g.size →
    IsReduced g q R → R q <ℤ pos 0 → degree g.size R <ℤ genus g
