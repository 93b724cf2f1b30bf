-- The set of the places where a function is at least a bound, as a test, and what the test says.
--   level f x        the places w with x ≤ f w
--   in_level, off_level      from the order to the test
--   level_in, level_off      from the test to the order
use Rattle.dg_theory.proofs.Common.{◌≡◌, ℕ, arith, Bool, true, false, ints, ℤ, le_z, ◌≤ℤ◌, ◌<ℤ◌}

abbrev pub level : (ℕ → ℤ) → ℤ → ℕ → Bool
level f x w = le_z x (f w)

pub in_level : (f : ℕ → ℤ) (x : ℤ) (w : ℕ) → x ≤ℤ f w → level f x w ≡ true
in_level f x w more = grind (arith, ints)

pub off_level : (f : ℕ → ℤ) (x : ℤ) (w : ℕ) → f w <ℤ x → level f x w ≡ false
off_level f x w less = grind (arith, ints)

pub level_in : (f : ℕ → ℤ) (x : ℤ) (w : ℕ) → level f x w ≡ true → x ≤ℤ f w
level_in f x w member = omega (arith, ints)

pub level_off : (f : ℕ → ℤ) (x : ℤ) (w : ℕ) → level f x w ≡ false → f w <ℤ x
level_off f x w missing = omega (arith, ints)
