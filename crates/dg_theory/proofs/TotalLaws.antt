-- Laws of sums of natural numbers below n.
--   nat_sum_below-cong        equal terms give equal sums
--   nat_sum_below-le          larger terms give a larger sum
--   nat_sum_below-term        a term is at most the sum
--   nat_sum_below-add         a sum of sums is the sum of both
--   nat_sum_below-differ_at   sums whose terms agree but at v differ by their terms at v
use Rattle.dg_theory.proofs.Common.{◌≡◌, ◌≢◌, ℕ, zero, suc, ◌+◌, ◌<◌, ◌≤◌, arith, refl, ap, inl, inr, cases_eq, nat_sum_below}

pub nat_sum_below-cong : (n : ℕ) (f h : ℕ → ℕ) → ((w : ℕ) → w < n → f w ≡ h w) → nat_sum_below n f ≡ nat_sum_below n h
nat_sum_below-cong zero f h same = refl
nat_sum_below-cong (suc n) f h same =
    omega (arith, nat_sum_below-cong n f h (λ w below. same w (omega arith)), same n (omega arith))

pub nat_sum_below-le : (n : ℕ) (f h : ℕ → ℕ) → ((w : ℕ) → w < n → f w ≤ h w) → nat_sum_below n f ≤ nat_sum_below n h
nat_sum_below-le zero f h less = omega arith
nat_sum_below-le (suc n) f h less =
    omega (arith, nat_sum_below-le n f h (λ w below. less w (omega arith)), less n (omega arith))

pub nat_sum_below-term : (n : ℕ) (f : ℕ → ℕ) (v : ℕ) → v < n → f v ≤ nat_sum_below n f
nat_sum_below-term zero f v below = absurd (omega arith)
nat_sum_below-term (suc n) f v below = elim (cases_eq v n) [
  | inl same ↦ omega (arith, ap f same)
  | inr other ↦ omega (arith, nat_sum_below-term n f v (omega arith))
]

pub nat_sum_below-add : (n : ℕ) (f h : ℕ → ℕ) → nat_sum_below n (λ w. f w + h w) ≡ nat_sum_below n f + nat_sum_below n h
nat_sum_below-add zero f h = omega arith
nat_sum_below-add (suc n) f h = omega (arith, nat_sum_below-add n f h)

pub nat_sum_below-differ_at : (n : ℕ) (f h : ℕ → ℕ) (v : ℕ) → v < n → ((w : ℕ) → w < n → w ≢ v → f w ≡ h w) →
    nat_sum_below n f + h v ≡ nat_sum_below n h + f v
nat_sum_below-differ_at zero f h v inside same = absurd (omega arith)
nat_sum_below-differ_at (suc n) f h v inside same = elim (cases_eq v n) [
  | inl last ↦ omega (arith, ap f last, ap h last, nat_sum_below-cong n f h (λ w below. same w (omega arith) (omega arith)))
  | inr other ↦
      omega (
        arith,
        nat_sum_below-differ_at n f h v (omega arith) (λ w below. same w (omega arith)),
        same n (omega arith) (omega arith),
      )
]
