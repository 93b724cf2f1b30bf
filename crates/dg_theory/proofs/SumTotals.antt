-- Sums of whole numbers that are totals of natural numbers, or their negatives.
--   sum_below-total   where each term of a sum is a natural number, the sum is their total
--   sum_below-minus   where each term is the negative of a natural number, sum and total cancel
use Rattle.dg_theory.proofs.Common.{◌≡◌, ℕ, zero, suc, ◌<◌, arith, refl, ints, ℤ, pos, ◌+ℤ◌, sum_below, nat_sum_below}

pub sum_below-total : (n : ℕ) (f : ℕ → ℤ) (h : ℕ → ℕ) → ((w : ℕ) → w < n → f w ≡ pos (h w)) →
    sum_below n f ≡ pos (nat_sum_below n h)
sum_below-total zero f h same = refl
sum_below-total (suc n) f h same =
    omega (arith, ints, sum_below-total n f h (λ w below. same w (omega arith)), same n (omega arith))

pub sum_below-minus : (n : ℕ) (f : ℕ → ℤ) (h : ℕ → ℕ) → ((w : ℕ) → w < n → f w +ℤ pos (h w) ≡ pos 0) →
    sum_below n f +ℤ pos (nat_sum_below n h) ≡ pos 0
sum_below-minus zero f h cancels = refl
sum_below-minus (suc n) f h cancels =
    omega (arith, ints, sum_below-minus n f h (λ w below. cancels w (omega arith)), cancels n (omega arith))
