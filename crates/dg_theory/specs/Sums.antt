-- Sums over the numbers below n, which are the vertices of a multigraph of size n.
--   sum_below n f      == f 0 + f 1 + .. + f (n - 1), for whole numbers
--   nat_sum_below n f  == f 0 + f 1 + .. + f (n - 1), for natural numbers
use Rattle.std.specs.Prelude.{ℕ, zero, suc, ◌+◌, ℤ, pos, ◌+ℤ◌}

abbrev pub sum_below : ℕ → (ℕ → ℤ) → ℤ
sum_below zero f = pos 0
sum_below (suc n) f = sum_below n f +ℤ f n

abbrev pub nat_sum_below : ℕ → (ℕ → ℕ) → ℕ
nat_sum_below zero f = 0
nat_sum_below (suc n) f = nat_sum_below n f + f n
