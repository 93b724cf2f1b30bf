-- Clearing all debts off q by a potential c, for amounts of any size: where each vertex borrows as often as it weighs,
-- everybody off q gets a dollar at least.
--   borrowed c       the script by which each vertex v borrows c v times
--   borrowed_gains   by it everybody off q gets at least a dollar
--   debts_cleared    from debts of at most k dollars off q, some script leaves none
--   can_be_cleared   so some script leaves no debt off q
use Rattle.dg_theory.proofs.Common.{◌≡◌, ◌≢◌, ℕ, zero, suc, ◌<◌, ◌≤◌, arith, ints, ℤ, pos, negsuc, ◌+ℤ◌, ◌≤ℤ◌, down, nat_sum_below, Multigraph, Amounts, gain, fired, IsEffectiveOff}
use Rattle.dg_theory.proofs.TotalLaws.{nat_sum_below-term}
use Rattle.dg_theory.proofs.FiringLaws.{fired-fired, fired-constant}
use Rattle.dg_theory.proofs.Bounds.{gain-opposite}
use Rattle.dg_theory.proofs.Equivalence.{opposite}
use Rattle.dg_theory.proofs.Potential.{IsPotential, as_script}

abbrev pub borrowed : (ℕ → ℕ) → Amounts
borrowed c = opposite (as_script c)

pub borrowed_gains : (g : Multigraph) (q : ℕ) (c : ℕ → ℕ) (D : Amounts) (v : ℕ) → IsPotential g q c → v < g.size →
    v ≢ q → (D v +ℤ pos 1) ≤ℤ fired g D (borrowed c) v
borrowed_gains g q c D v potential inside other =
    let less : (gain g (as_script c) v +ℤ pos 1) ≤ℤ pos 0 = potential.loses v inside other in
    let both : gain g (as_script c) v +ℤ gain g (borrowed c) v ≡ pos 0 = gain-opposite g (as_script c) v in
    omega (arith, ints)

pub debts_cleared : (g : Multigraph) (q : ℕ) (c : ℕ → ℕ) → IsPotential g q c → (k : ℕ) (D : Amounts) →
    ((v : ℕ) → v < g.size → v ≢ q → pos 0 ≤ℤ (D v +ℤ pos k)) → (s : Amounts) × IsEffectiveOff g q (fired g D s)
debts_cleared g q c potential zero D few =
    (λ _. pos 0, λ v inside other. omega (arith, ints, fired-constant g D (pos 0) v, few v inside other))
debts_cleared g q c potential (suc k) D few =
    let more : Amounts = fired g D (borrowed c) in
    let (s, solvent) = debts_cleared g q c potential k more (λ v inside other.
    omega (arith, ints, borrowed_gains g q c D v potential inside other, few v inside other)) in (
      λ w. borrowed c w +ℤ s w,
      λ v inside other.
          omega (arith, ints, fired-fired g D (borrowed c) s v, solvent v inside other),
    )

within_down : (z : ℤ) → pos 0 ≤ℤ (z +ℤ pos (down z))
within_down (pos n) = omega (arith, ints)
within_down (negsuc n) = omega (arith, ints)

pub can_be_cleared : (g : Multigraph) (q : ℕ) (c : ℕ → ℕ) (D : Amounts) → IsPotential g q c →
    (s : Amounts) × IsEffectiveOff g q (fired g D s)
can_be_cleared g q c D potential =
    debts_cleared g q c potential (nat_sum_below g.size (λ v. down (D v))) D (λ v inside other.
    let term : down (D v) ≤ nat_sum_below g.size (λ w. down (D w)) = nat_sum_below-term g.size (λ w. down (D w)) v inside in
    omega (arith, ints, within_down (D v)))
