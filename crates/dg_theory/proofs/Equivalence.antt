-- Linear equivalence.
--   opposite s              the script by which each vertex borrows as often as it lends by s
--   opposite_leads          if s leads from D to E, then its opposite leads back
--   equivalent-refl         divisors that agree on the vertices are equivalent
--   equivalent-sym          if D is equivalent to E, then E is equivalent to D
--   equivalent-trans        if D is equivalent to E, and E to F, then D is equivalent to F
--   equivalent-fired        a divisor is equivalent to what firing makes of it
--   equivalent-less         equivalent divisors are so after the same loss
--   equivalent_by_plays     divisors are equivalent exactly where some list of plays leads from one to the other
--   equivalent-degree       equivalent divisors have the same degree
use Rattle.dg_theory.proofs.Common.{arith, refl, sym, ◌∙◌, ints, pos, neg_ℤ, ◌+ℤ◌, Multigraph, Amounts, fired, FiresTo, AreEquivalent, minus, EquivalenceIsReflexive, EquivalenceIsSymmetric, EquivalenceIsTransitive, EquivalentByPlays, EquivalentDegrees}
use Rattle.dg_theory.proofs.Agreement.{fired-here}
use Rattle.dg_theory.proofs.Exchange.{degree_stays}
use Rattle.dg_theory.proofs.FiringLaws.{fired-fired, fired-constant, fired-constant_script}
use Rattle.dg_theory.proofs.Plays.{total_script, plays_for, played-total, played-plays_for}
use Rattle.dg_theory.proofs.SumLaws.{sum_below-cong}

abbrev pub opposite : Amounts → Amounts
opposite s w = neg_ℤ (s w)

pub equivalent-refl : EquivalenceIsReflexive
equivalent-refl g D E same = (λ _. pos 0, λ v below. sym (same v below) ∙ sym (fired-constant g D (pos 0) v))

pub opposite_leads : (g : Multigraph) (D E s : Amounts) → FiresTo g s D E → FiresTo g (opposite s) E D
opposite_leads g D E s leads v below =
    sym (fired-here g E (fired g D s) (opposite s) leads v below
    ∙ fired-fired g D s (opposite s) v
    ∙ fired-constant_script g D (λ w. s w +ℤ opposite s w) (pos 0) (λ w _. omega (arith, ints)) v below)

pub equivalent-sym : EquivalenceIsSymmetric
equivalent-sym g D E (s, leads) = (opposite s, opposite_leads g D E s leads)

pub equivalent-trans : EquivalenceIsTransitive
equivalent-trans g D E F (s, leads) (t, next) = (
  λ w. s w +ℤ t w,
  λ v below.
      next v below ∙ fired-here g E (fired g D s) t leads v below ∙ fired-fired g D s t v,
)

pub equivalent-fired : (g : Multigraph) (D s : Amounts) → AreEquivalent g D (fired g D s)
equivalent-fired g D s = (s, λ v below. refl)

pub equivalent-less : (g : Multigraph) (D E F : Amounts) → AreEquivalent g D E → AreEquivalent g (minus D F) (minus E F)
equivalent-less g D E F (s, leads) = (s, λ v below. omega (arith, ints, leads v below))

pub equivalent_by_plays : EquivalentByPlays
equivalent_by_plays g D E = (
  λ (s, leads). (plays_for g.size s, λ v below. leads v below ∙ played-plays_for g D s v below),
  λ (l, leads). (total_script l, λ v below. leads v below ∙ played-total g D l v),
)

pub equivalent-degree : EquivalentDegrees
equivalent-degree g D E graph (s, leads) =
    sym (sum_below-cong g.size E (fired g D s) leads ∙ degree_stays g D s graph)
