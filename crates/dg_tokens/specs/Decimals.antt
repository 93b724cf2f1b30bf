-- A text that begins with what is written of a number.
--   StartsWithDigit text                == the first byte is an ASCII digit
--   BeginsWithDecimal text written rest == the text is what is written, and then a rest that begins with no
--                                          digit
use Rattle.std.specs.Prelude.{◌≡◌, ℕ, ◌≤◌, List, [], ◌∷◌, ◌++◌}

abbrev pub StartsWithDigit : List ℕ → Type 0
StartsWithDigit [] = ⊥
StartsWithDigit (x ∷ xs) = (48 ≤ x) × (x ≤ 57)

pub record BeginsWithDecimal (text written rest : List ℕ) : Type 0 where
  pub whole : text ≡ written ++ rest
  pub ends : ¬ StartsWithDigit rest
