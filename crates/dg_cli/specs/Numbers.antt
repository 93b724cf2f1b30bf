-- The numbers of a command line.
--   IsNumberIn low high text n        == the text is the decimal of n, which is from low to high
--   IsGiven low high text n           == n is the number of the text if there is a text, and none if there is
--                                        none
--   IsGivenOr default low high text n == the same, with a default if there is no text
use Rattle.std.specs.Prelude.{◌≡◌, ◌≤◌, ℕ, Option, None, Some, decimal, ⊤}
use Rattle.clap.specs.Words.{Text}

pub record IsNumberIn (low high : ℕ) (text : Text) (n : ℕ) : Type 0 where
  pub spelled : text ≡ decimal n
  pub not_less : low ≤ n
  pub not_more : n ≤ high

abbrev pub IsGiven : ℕ → ℕ → Option Text → Option ℕ → Type 0
IsGiven low high None None = ⊤
IsGiven low high None (Some n) = ⊥
IsGiven low high (Some text) None = ⊥
IsGiven low high (Some text) (Some n) = IsNumberIn low high text n

abbrev pub IsGivenOr : ℕ → ℕ → ℕ → Option Text → ℕ → Type 0
IsGivenOr default low high None n = n ≡ default
IsGivenOr default low high (Some text) n = IsNumberIn low high text n
