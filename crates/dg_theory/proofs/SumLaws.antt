-- Laws of sums over the numbers below n.
--   sum_below-cong        equal terms give equal sums
--   sum_below-add         a sum of sums is the sum of both
--   sum_below-zero        a sum of zeros is zero
--   sum_below-more        a sum of n + 1 terms is the sum of n and the last
--   sum_below-differ_at   sums whose terms agree but at v differ by their terms at v
--   sum_below-le          larger terms give a larger sum
--   sum_below-le_but      the same but for the terms at v
--   sum_below-same, sum_below-debts   a sum of n terms M, and of n terms - K
use Rattle.dg_theory.proofs.Common.{◌≡◌, ◌≢◌, ℕ, zero, suc, ◌+◌, ◌*◌, ◌<◌, add-one, suc-mul, arith, refl, ap, inl, inr, cases_eq, ints, ℤ, pos, ◌+ℤ◌, neg_ℤ, ◌≤ℤ◌, sum_below}

pub sum_below-cong : (n : ℕ) (f h : ℕ → ℤ) → ((w : ℕ) → w < n → f w ≡ h w) → sum_below n f ≡ sum_below n h
sum_below-cong zero f h same = refl
sum_below-cong (suc n) f h same =
    omega (arith, ints, sum_below-cong n f h (λ w below. same w (omega arith)), same n (omega arith))

pub sum_below-add : (n : ℕ) (f h : ℕ → ℤ) → sum_below n (λ w. f w +ℤ h w) ≡ sum_below n f +ℤ sum_below n h
sum_below-add zero f h = refl
sum_below-add (suc n) f h = omega (arith, ints, sum_below-add n f h)

pub sum_below-zero : (n : ℕ) (f : ℕ → ℤ) → ((w : ℕ) → w < n → f w ≡ pos 0) → sum_below n f ≡ pos 0
sum_below-zero zero f none = refl
sum_below-zero (suc n) f none =
    omega (arith, ints, sum_below-zero n f (λ w below. none w (omega arith)), none n (omega arith))

pub sum_below-more : (n : ℕ) (f : ℕ → ℤ) (s x z : ℤ) → s ≡ sum_below n f → x ≡ f n → z ≡ s +ℤ x →
    z ≡ sum_below (n + 1) f
sum_below-more n f s x z before last whole = rw add-one (omega (arith, ints))

pub sum_below-differ_at : (n : ℕ) (f h : ℕ → ℤ) (v : ℕ) → v < n → ((w : ℕ) → w < n → w ≢ v → f w ≡ h w) →
    sum_below n f +ℤ h v ≡ sum_below n h +ℤ f v
sum_below-differ_at zero f h v inside same = absurd (omega arith)
sum_below-differ_at (suc n) f h v inside same = elim (cases_eq v n) [
  | inl last ↦
      omega (arith, ints, ap f last, ap h last, sum_below-cong n f h (λ w below. same w (omega arith) (omega arith)))
  | inr other ↦
      omega (
        arith,
        ints,
        sum_below-differ_at n f h v (omega arith) (λ w below. same w (omega arith)),
        same n (omega arith) (omega arith),
      )
]

pub sum_below-le : (n : ℕ) (f h : ℕ → ℤ) → ((w : ℕ) → w < n → f w ≤ℤ h w) → sum_below n f ≤ℤ sum_below n h
sum_below-le zero f h less = omega (arith, ints)
sum_below-le (suc n) f h less =
    omega (arith, ints, sum_below-le n f h (λ w below. less w (omega arith)), less n (omega arith))

pub sum_below-le_but : (n : ℕ) (f h : ℕ → ℤ) (v : ℕ) → v < n → ((w : ℕ) → w < n → w ≢ v → f w ≤ℤ h w) →
    (sum_below n f +ℤ h v) ≤ℤ (sum_below n h +ℤ f v)
sum_below-le_but zero f h v inside less = absurd (omega arith)
sum_below-le_but (suc n) f h v inside less = elim (cases_eq v n) [
  | inl last ↦
      omega (arith, ints, ap f last, ap h last, sum_below-le n f h (λ w below. less w (omega arith) (omega arith)))
  | inr other ↦
      omega (
        arith,
        ints,
        sum_below-le_but n f h v (omega arith) (λ w below. less w (omega arith)),
        less n (omega arith) (omega arith),
      )
]

pub sum_below-same : (n M : ℕ) → sum_below n (λ w. pos M) ≡ pos (n * M)
sum_below-same zero M = omega (arith, ints)
sum_below-same (suc n) M = omega (arith, ints, suc-mul n M, sum_below-same n M)

pub sum_below-debts : (n K : ℕ) → sum_below n (λ w. neg_ℤ (pos K)) +ℤ pos (n * K) ≡ pos 0
sum_below-debts zero K = omega (arith, ints)
sum_below-debts (suc n) K = omega (arith, ints, suc-mul n K, sum_below-debts n K)
