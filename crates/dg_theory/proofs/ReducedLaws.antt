-- Laws of reduced divisors.
--   reduced_once     equivalent divisors that are both reduced for q agree on the vertices
--   effective_from   a reduced divisor that is not in debt at q is effective
--   paid_at_q        a reduced divisor from which a script clears all debts is not in debt at q
--   reduced_decides  a divisor is winnable exactly where the reduced divisor that it is equivalent to is not in debt at
--                    q
use Rattle.dg_theory.proofs.Common.{◌≡◌, ℕ, ◌<◌, [], arith, ap, sym, ◌∙◌, ⊎_elim, cases_eq, ints, pos, ◌≤ℤ◌, Multigraph, Amounts, gain, fired, IsEffective, FiresTo, IsReduced, ReducedDecides, ReducedIsUnique}
use Rattle.dg_theory.proofs.Equivalence.{opposite, opposite_leads}
use Rattle.dg_theory.proofs.FiringLaws.{fired-constant_script}
use Rattle.dg_theory.proofs.Largest.{IsLargest}
use Rattle.dg_theory.proofs.Lending.{lends_most_gains_none, q_lends_most}
use Rattle.dg_theory.proofs.Winning.{script_of_win, equivalent-winnable}

pub reduced_once : ReducedIsUnique
reduced_once g q D E vertex (s, leads) first second v inside =
    let back : FiresTo g (opposite s) E D = opposite_leads g D E s leads in
    let ahead : IsLargest g.size s q = q_lends_most g q D s vertex first
    (λ w below other. omega (arith, ints, leads w below, second.no_debt w below other)) in
    let behind : IsLargest g.size (opposite s) q = q_lends_most g q E (opposite s) vertex second
    (λ w below other. omega (arith, ints, back w below, first.no_debt w below other)) in
    sym (leads v inside
    ∙ fired-constant_script g D s (s q) (λ w below. omega (arith, ints, ahead w below, behind w below)) v inside)

pub effective_from : (g : Multigraph) (q : ℕ) (R : Amounts) → IsReduced g q R → pos 0 ≤ℤ R q → IsEffective g.size R
effective_from g q R reduced paid v inside =
    ⊎_elim
    (λ (same : v ≡ q). let at : R v ≡ R q = ap R same in omega (arith, ints))
    (λ (other : v ≡ q → ⊥). reduced.no_debt v inside other)
    (cases_eq v q)

paid_at_q : (g : Multigraph) (q : ℕ) (R s : Amounts) → q < g.size → IsReduced g q R → IsEffective g.size (fired g R s) →
    pos 0 ≤ℤ R q
paid_at_q g q R s vertex reduced effective =
    let most : IsLargest g.size s q = q_lends_most g q R s vertex reduced (λ v inside _. effective v inside) in
    let lost : gain g s q ≤ℤ pos 0 = lends_most_gains_none g s q most in
    omega (arith, ints, effective q vertex)

pub reduced_decides : ReducedDecides
reduced_decides g q D R vertex same reduced = (
  λ win.
      let (s, effective) = script_of_win g R ((equivalent-winnable g D R same).0 win) in
      paid_at_q g q R s vertex reduced effective,
  λ paid. (equivalent-winnable g D R same).1 ([], effective_from g q R reduced paid),
)
