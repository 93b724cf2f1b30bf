-- The decimals of seats have one digit or two.
--   one_digit     a text of one byte is the decimal of its digit
--   two_digits    a text of two bytes, the first not 0, is the decimal of its two digits
--   seat_length   the decimal of a seat has one digit, or two of which the first is not 0
--   seat_one      the digit of such a decimal, where it has one
--   seat_two      the digits of such a decimal, where it has two
--   told_weaker   what an option tells, in weaker words
use Rattle.dg_lines.proofs.Common.{◌≡◌, ℕ, ◌+◌, ◌/◌, ◌%◌, ◌<◌, ◌≤◌, ◌⊎◌, List, [], ◌∷◌, ◌++◌, length, Option, Some, None, inl, inr, ap, sym, ◌∙◌, arith, decimal, slice_index_or, cases_lt, decimal_digit, decimal_step}
use Rattle.std.specs.Option.{MatchOption}

digit : (n : ℕ) → n < 10 → decimal n ≡ (48 + n % 10) ∷ []
digit n few = let same : n % 10 ≡ n = omega (arith, few) in rw same (decimal_digit n few)

digits : (n : ℕ) → 10 ≤ n → n < 100 → decimal n ≡ (48 + n / 10) ∷ (48 + n % 10) ∷ []
digits n many few =
    decimal_step n many (omega (arith, few))
    ∙ ap (λ front. front ++ ((48 + n % 10) ∷ [])) (decimal_digit (n / 10) (omega (arith, few)))

pub one_digit : (text : List ℕ) (n : ℕ) → length text ≡ 1 → 48 ≡ 48 + n / 10 → slice_index_or text 0 0 ≡ 48 + n % 10 →
    text ≡ decimal n
one_digit [] n long tens ones = absurd (omega arith)
one_digit (x ∷ []) n long tens ones = ap (λ d. d ∷ []) ones ∙ sym (digit n (omega (arith, tens)))
one_digit (x ∷ y ∷ rest) n long tens ones = absurd (omega arith)

pub two_digits : (text : List ℕ) (n : ℕ) → length text ≡ 2 → n < 100 → slice_index_or text 0 0 ≡ 48 + n / 10 →
    slice_index_or text 1 0 ≡ 48 + n % 10 → (slice_index_or text 0 0 ≡ 48 → ⊥) → text ≡ decimal n
two_digits [] n long few tens ones first = absurd (omega arith)
two_digits (x ∷ []) n long few tens ones first = absurd (omega arith)
two_digits (x ∷ y ∷ []) n long few tens ones first = elim (cases_lt n 10) [
  | inl small ↦ absurd (first (omega (arith, tens, small)))
  | inr large ↦ ap (λ d. d ∷ y ∷ []) tens ∙ ap (λ d. (48 + n / 10) ∷ d ∷ []) ones ∙ sym (digits n large few)
]
two_digits (x ∷ y ∷ z ∷ rest) n long few tens ones first = absurd (omega arith)

pub seat_one : (text : List ℕ) (n : ℕ) → n ≤ 64 → text ≡ decimal n → length text ≡ 1 →
    (48 ≡ 48 + n / 10) × (slice_index_or text 0 0 ≡ 48 + n % 10)
seat_one text n most spelled long = elim (cases_lt n 10) [
  | inl small ↦ (omega (arith, small), ap (λ ds. slice_index_or ds 0 0) (spelled ∙ digit n small))
  | inr large ↦ absurd (omega (arith, long, ap length (spelled ∙ digits n large (omega (arith, most)))))
]

pub seat_two : (text : List ℕ) (n : ℕ) → n ≤ 64 → text ≡ decimal n → length text ≡ 2 →
    (10 ≤ n) × (slice_index_or text 0 0 ≡ 48 + n / 10) × (slice_index_or text 1 0 ≡ 48 + n % 10)
seat_two text n most spelled long = elim (cases_lt n 10) [
  | inl small ↦ absurd (omega (arith, long, ap length (spelled ∙ digit n small)))
  | inr large ↦
      let two : text ≡ (48 + n / 10) ∷ (48 + n % 10) ∷ [] = spelled ∙ digits n large (omega (arith, most)) in
      (large, ap (λ ds. slice_index_or ds 0 0) two, ap (λ ds. slice_index_or ds 1 0) two)
]

pub seat_length : (text : List ℕ) (n : ℕ) → n ≤ 64 → text ≡ decimal n → (length text ≡ 1) ⊎ (length text ≡ 2)
seat_length text n most spelled = elim (cases_lt n 10) [
  | inl small ↦ inl (ap length (spelled ∙ digit n small))
  | inr large ↦ inr (ap length (spelled ∙ digits n large (omega (arith, most))))
]

pub told_weaker : (r : Option ℕ) (P R : Type 0) (Q S : ℕ → Type 0) → MatchOption r P Q → (P → R) →
    ((n : ℕ) → Q n → S n) → MatchOption r R S
told_weaker None P R Q S told none some = none told
told_weaker (Some n) P R Q S told none some = some n told
