-- The digits with which a text begins, as they are read: at most 19.
--   AreLeadingDigits text n count == the text begins with count digits, the number of which is n;
--                                    if these are fewer than 19, then no digit follows
use Rattle.std.specs.Prelude.{◌≡◌, ℕ, ◌<◌, ◌≤◌, List, length, take, drop, slice_index}
use Rattle.std.specs.Str.Parse.{digits_value}
use Rattle.dg_tokens.specs.Decimals.{StartsWithDigit}

pub record AreLeadingDigits (text : List ℕ) (n count : ℕ) : Type 0 where
  pub within : count ≤ length text
  pub few : count ≤ 19
  pub digits : (i : ℕ) → i < count → (48 ≤ slice_index text i) × (slice_index text i ≤ 57)
  pub number : digits_value 10 (take count text) ≡ n
  pub ends : count < 19 → ¬ StartsWithDigit (drop count text)
