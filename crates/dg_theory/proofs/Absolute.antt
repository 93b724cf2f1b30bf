-- Absolute values of whole numbers.
--   within_abs   a number whose absolute value is at most n lies from -n to n
--   abs_within   and the other way round
--   abs-add      the absolute value of a sum is at most the sum of the absolute values
use Rattle.dg_theory.proofs.Common.{ℕ, ◌+◌, ◌≤◌, arith, ints, ℤ, pos, negsuc, ◌+ℤ◌, neg_ℤ, ◌≤ℤ◌, unsigned_abs}

pub within_abs : (z : ℤ) (n : ℕ) → unsigned_abs z ≤ n → (neg_ℤ (pos n) ≤ℤ z) × (z ≤ℤ pos n)
within_abs (pos a) n bound = (omega (arith, ints), omega (arith, ints))
within_abs (negsuc a) n bound = (omega (arith, ints), omega (arith, ints))

pub abs_within : (z : ℤ) (n : ℕ) → neg_ℤ (pos n) ≤ℤ z → z ≤ℤ pos n → unsigned_abs z ≤ n
abs_within (pos a) n low high = omega (arith, ints)
abs_within (negsuc a) n low high = omega (arith, ints)

pub abs-add : (a b : ℤ) (m n : ℕ) → unsigned_abs a ≤ m → unsigned_abs b ≤ n → unsigned_abs (a +ℤ b) ≤ m + n
abs-add a b m n first second =
    let (low, high) = within_abs a m first in
    let (low', high') = within_abs b n second in
    abs_within (a +ℤ b) (m + n) (omega (arith, ints)) (omega (arith, ints))
