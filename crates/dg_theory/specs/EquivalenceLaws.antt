-- The laws of linear equivalence, for every multigraph and divisor (Baker and Norine 2007, section
-- 1; Corry and Perkinson, chapters 1 and 2). The functions of src/laws.rt promise them.
--   EquivalenceIsReflexive  == divisors that agree on the vertices are equivalent
--   EquivalenceIsSymmetric  == if D is equivalent to E, then E is equivalent to D
--   EquivalenceIsTransitive == if D is equivalent to E, and E to F, then D is equivalent to F
--   EquivalentByPlays       == two divisors are equivalent exactly if some list of lendings and
--                              borrowings leads from one to the other
--   EquivalentDegrees       == equivalent divisors have the same degree
use Rattle.std.specs.Prelude.{◌≡◌, ◌↔◌, List}
use Rattle.dg_theory.specs.Multigraph.{Multigraph, IsMultigraph}
use Rattle.dg_theory.specs.Firing.{Amounts, degree, DivisorsAgreeOn, AreEquivalent}
use Rattle.dg_theory.specs.Play.{Play, played}

abbrev pub EquivalenceIsReflexive : Type 0
EquivalenceIsReflexive = (g : Multigraph) (D E : Amounts) → DivisorsAgreeOn g.size D E → AreEquivalent g D E

abbrev pub EquivalenceIsSymmetric : Type 0
EquivalenceIsSymmetric =
    (g : Multigraph) (D E : Amounts) → AreEquivalent g D E → AreEquivalent g E D

abbrev pub EquivalenceIsTransitive : Type 0
EquivalenceIsTransitive =
    (g : Multigraph) (D E F : Amounts) → AreEquivalent g D E → AreEquivalent g E F →
    AreEquivalent g D F

abbrev pub EquivalentByPlays : Type 0
EquivalentByPlays = (g : Multigraph) (D E : Amounts) →
    AreEquivalent g D E ↔ ((l : List Play) × DivisorsAgreeOn g.size E (played g D l))

abbrev pub EquivalentDegrees : Type 0
EquivalentDegrees = (g : Multigraph) (D E : Amounts) → IsMultigraph g → AreEquivalent g D E →
    degree g.size D ≡ degree g.size E
