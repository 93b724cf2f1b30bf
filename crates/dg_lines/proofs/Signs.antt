-- Numbers below 0.
--   one_digit     a number below 10 that is not below 0 is written as one digit
--   minus_first   a number below 0 is written as `-` and the digits of its amount
use Rattle.dg_lines.proofs.Common.{◌≡◌, ◌+◌, ◌<◌, true, false, [], ◌∷◌, ℤ, pos, negsuc, int_le, unsigned_abs, refl, sym, ◌∙◌, true≢false, decimal, leb-zero, signed_decimal, decimal_digit}

pub minus_first : (z : ℤ) → int_le (pos 0) z ≡ false → 45 ∷ decimal (unsigned_abs z) ≡ signed_decimal z
minus_first (pos n) e = absurd (true≢false (sym (leb-zero n) ∙ e))
minus_first (negsuc n) e = refl

pub one_digit : (z : ℤ) → int_le (pos 0) z ≡ true → unsigned_abs z < 10 → (48 + unsigned_abs z) ∷ [] ≡ signed_decimal z
one_digit (pos n) e few = sym (decimal_digit n few)
one_digit (negsuc n) e few = absurd (true≢false (sym e))
