-- The decimals of whole numbers of at most 64 digits are the numerals.
--   numerals_are_decimals
use Rattle.dg_lines.proofs.Common.{◌≡◌, ◌≢◌, ℕ, zero, suc, ◌+◌, ◌*◌, ◌/◌, ◌%◌, ◌^◌, ◌<◌, ◌≤◌, inl, inr, ℤ, pos, negsuc, List, [], ◌∷◌, ◌++◌, length, get_or, drop, refl, ap, sym, ◌∙◌, subst, arith, codes, decimal, append_assoc, All, signed_decimal, digit_value, AllDigits, digits_value_after, digits_value, decimal_digit, decimal_is_IsNumeral_wide, decimal_step_wide, decimal_by_steps_wide, get_or-append, append-nil, length-append, All-nil, All-cons, All-head, All-tail, digit_value_digit, digit_from_value, digits_value_short, numerals_by_value, tells_digits, IsDigit, IsUnsignedNumeral, IsNumeral, IsShortNumber, NumeralsAreDecimals}

first_digit : (n : ℕ) → 0 < n → n < 10 ^ 64 → 48 < get_or (decimal n) 0 0
first_digit n some small =
    (decimal_by_steps_wide (λ m ds. (0 < length ds) × (0 < m → 48 < get_or ds 0 0))
    (λ m l. (omega arith, λ a. omega arith))
    (λ m ds l h. (
      omega (arith, length-append ds ((48 + m % 10) ∷ [])),
      λ a. omega (arith, get_or-append ds ((48 + m % 10) ∷ []) 0 0 h.0, h.1 (omega arith)),
    )) n small).1 some

digits_each : (ds : List ℕ) → AllDigits 10 ds → All IsDigit ds
digits_each [] each = All-nil IsDigit
digits_each (c ∷ cs) each =
    let range = digit_from_value c each.0 in
    All-cons IsDigit c cs (record { low = range.0; high = range.1 }) (digits_each cs each.1)

each_digit : (ds : List ℕ) → All IsDigit ds → AllDigits 10 ds
each_digit [] each = tt
each_digit (c ∷ cs) each =
    let range = All-head IsDigit c cs each in
    (omega (arith, digit_value_digit c (range.low, range.high)), each_digit cs (All-tail IsDigit c cs each))

unsigned_digits : (ds : List ℕ) → 0 < length ds → AllDigits 10 ds → 48 < get_or ds 0 0 → IsUnsignedNumeral ds
unsigned_digits [] some each first = absurd (omega arith)
unsigned_digits (c ∷ cs) some each first =
    let range = digit_from_value c each.0 in
    record { first = c; rest = cs; whole = refl; low = omega arith; high = range.1; digits = digits_each cs each.1 }

decimal_unsigned : (n : ℕ) → 0 < n → n < 10 ^ 64 → IsUnsignedNumeral (decimal n)
decimal_unsigned n some small =
    let known = decimal_is_IsNumeral_wide n small in
    unsigned_digits (decimal n) known.0.0 known.0.1 (first_digit n some small)

decimal_zero : decimal 0 ≡ codes "0"
decimal_zero = decimal_digit 0 (omega arith)

pub is_numeral : (z : ℤ) → IsShortNumber z → IsNumeral (signed_decimal z)
is_numeral (pos zero) small = inl decimal_zero
is_numeral (pos (suc n)) small = inr (inl (decimal_unsigned (suc n) (omega arith) small))
is_numeral (negsuc n) small = inr (inr (decimal (suc n), refl, decimal_unsigned (suc n) (omega arith) small))

le_value_after : (n : ℕ) (ds : List ℕ) → n ≤ digits_value_after 10 n ds
le_value_after n [] = omega arith
le_value_after n (c ∷ cs) = omega (arith, le_value_after (n * 10 + digit_value c) cs)

decimal_value_after : (n : ℕ) (ds : List ℕ) → 0 < n → AllDigits 10 ds → digits_value_after 10 n ds < 10 ^ 64
    → decimal (digits_value_after 10 n ds) ≡ decimal n ++ ds
decimal_value_after n [] some d small = sym (append-nil (decimal n))
decimal_value_after n (c ∷ cs) some d small =
    let m : ℕ = n * 10 + digit_value c in
    let k = digit_value_digit c (digit_from_value c d.0) in
    let front : m / 10 ≡ n = omega (arith, d.0) in
    let end : 48 + m % 10 ≡ c = omega (arith, d.0) in
    decimal_value_after m cs (omega arith) d.1 small
    ∙ ap (λ x. x ++ cs) (decimal_step_wide m (omega arith) (omega (arith, le_value_after m cs))
    ∙ ap (λ x. decimal x ++ ((48 + m % 10) ∷ [])) front ∙ ap (λ x. decimal n ++ (x ∷ [])) end)
    ∙ append_assoc (decimal n) (c ∷ []) cs

short_value : (ds : List ℕ) → AllDigits 10 ds → length ds ≤ 64 → digits_value 10 ds < 10 ^ 64
short_value ds each short = digits_value_short (numerals_by_value (AllDigits 10) tells_digits) ds 64 each short

unsigned_value : (text : List ℕ) → IsUnsignedNumeral text → length text ≤ 64
    → (0 < digits_value 10 text) × (digits_value 10 text < 10 ^ 64) × (text ≡ decimal (digits_value 10 text))
unsigned_value text known short =
    subst P (sym known.whole)
    (go known.first known.rest known.low known.high known.digits
    (subst (λ (xs : List ℕ). length xs ≤ 64) known.whole short))
  where
    P : List ℕ → Type 0
    P ds = (0 < digits_value 10 ds) × (digits_value 10 ds < 10 ^ 64) × (ds ≡ decimal (digits_value 10 ds))

    go : (c : ℕ) (cs : List ℕ) → 49 ≤ c → c ≤ 57 → All IsDigit cs → length (c ∷ cs) ≤ 64 → P (c ∷ cs)
    go c cs low high each few =
        let value : digit_value c + 48 ≡ c = digit_value_digit c (omega arith, high) in
        let digits : AllDigits 10 cs = each_digit cs each in
        let small : digits_value 10 (c ∷ cs) < 10 ^ 64 = short_value (c ∷ cs) (omega arith, digits) few in
        let some : 0 < 0 * 10 + digit_value c = omega arith in (
          omega (arith, le_value_after (0 * 10 + digit_value c) cs),
          small,
          sym (decimal_value_after (0 * 10 + digit_value c) cs some digits small
              ∙ ap (λ x. x ++ cs) (decimal_digit (0 * 10 + digit_value c) (omega arith)
              ∙ ap (λ x. x ∷ []) (one_digit c value))),
        )
      where
        one_digit : (d : ℕ) → digit_value d + 48 ≡ d → 48 + (0 * 10 + digit_value d) ≡ d
        one_digit d is = omega arith

of_numeral : (text : List ℕ) → length text ≤ 64 → IsNumeral text → (z : ℤ) × IsShortNumber z × (text ≡ signed_decimal z)
of_numeral text short (inl e) = (pos 0, omega arith, e ∙ sym decimal_zero)
of_numeral text short (inr (inl known)) =
    let value = unsigned_value text known short in
    (pos (digits_value 10 text), value.1, value.2)
of_numeral text short (inr (inr (rest, e, known))) =
    let value = unsigned_value rest known (omega (arith, ap length e)) in
    below (digits_value 10 rest) value.0 value.1 value.2
  where
    below : (n : ℕ) → 0 < n → n < 10 ^ 64 → rest ≡ decimal n → (z : ℤ) × IsShortNumber z × (text ≡ signed_decimal z)
    below zero some small is = absurd (omega arith)
    below (suc n) some small is = (negsuc n, small, e ∙ ap (λ ds. 45 ∷ ds) is)

injective : (m n : ℕ) → m < 10 ^ 64 → n < 10 ^ 64 → decimal m ≡ decimal n → m ≡ n
injective m n p q e = sym (decimal_is_IsNumeral_wide m p).1 ∙ ap (digits_value 10) e ∙ (decimal_is_IsNumeral_wide n q).1

no_minus : (n : ℕ) (ds : List ℕ) → n < 10 ^ 64 → decimal n ≢ 45 ∷ ds
no_minus n ds h e =
    let first : digit_value 45 < 10 = (subst (AllDigits 10) e (decimal_is_IsNumeral_wide n h).0.1).0 in
    omega (arith, digit_from_value 45 first)

one_number : (y z : ℤ) → IsShortNumber y → IsShortNumber z → signed_decimal y ≡ signed_decimal z → y ≡ z
one_number (pos m) (pos n) p q e = ap pos (injective m n p q e)
one_number (pos m) (negsuc n) p q e = absurd (no_minus m (decimal (suc n)) p e)
one_number (negsuc m) (pos n) p q e = absurd (no_minus n (decimal (suc m)) q (sym e))
one_number (negsuc m) (negsuc n) p q e = ap negsuc (omega (arith, injective (suc m) (suc n) p q (ap (drop 1) e)))

pub numerals_are_decimals : NumeralsAreDecimals
numerals_are_decimals = record {
  just = λ text short. (λ known. subst IsNumeral (sym known.2) (is_numeral known.0 known.1), of_numeral text short);
  one = one_number;
}
