-- Digits as they are read one by one, and the decimal that they are.
--   AreDigitsTo front n count    the digits so far, and the number that they come to
--   digits_more                  one more keeps that
--   digits_small                 the number of at most 18 is below 10^18
--   leading_found                these are a decimal, if there is one and no zero before others
--   leading_lost                 where a text begins with a decimal, they are so
--   one_natural                  a text begins with one decimal
use Rattle.dg_tokens.proofs.Common.{◌≡◌, ℕ, zero, suc, ◌+◌, ◌-◌, ◌*◌, ◌<◌, ◌≤◌, ◌^◌, List, [], ◌∷◌, ◌++◌, length, take, drop, get_or, refl, sym, ap, ◌∙◌, subst, inl, inr, arith, decimal, below_more, cases_lt, cases_order, take_more, length-take, length-take-le, get_or-take, get_or_append_left, take-append-drop, drop_at, take_at, length-append, decimal-digits_value, decimal_is_IsNumeral, decimal_digit, decimal_injective, decimal_nonempty, first_decimal, length-decimal-le, IsNumeralModel, numerals_by_value, tells_by_index, digits_value_short, digit_at, digit_value_digit, digits_value, digits_value_after, digit_value, BeginsWithDecimal, StartsWithDigit, AreLeadingDigits}

abbrev pub IsDigit : ℕ → Type 0
IsDigit c = (48 ≤ c) × (c ≤ 57)

abbrev pub AreDigits : List ℕ → Type 0
AreDigits ds = (i : ℕ) → i < length ds → IsDigit (get_or ds i 0)

own : IsNumeralModel AreDigits (digits_value 10)
own = numerals_by_value AreDigits tells_by_index

pub record AreDigitsTo (front : List ℕ) (n count : ℕ) : Type 0 where
  pub digits : (i : ℕ) → i < count → IsDigit (get_or front i 0)
  pub number : digits_value 10 (take count front) ≡ n

pushed : (n : ℕ) (ds : List ℕ) (d : ℕ)
    → digits_value_after 10 n (ds ++ d ∷ []) ≡ digits_value_after 10 n ds * 10 + digit_value d
pushed n [] d = refl
pushed n (c ∷ ds) d = pushed (n * 10 + digit_value c) ds d

pub digits_more : (front : List ℕ) (n count byte m : ℕ) → AreDigitsTo front n count → count < length front
    → byte ≡ get_or front count 0 → 48 ≤ byte → byte ≤ 57 → m ≡ 10 * n + (byte - 48) → AreDigitsTo front m (count + 1)
digits_more front n count byte m far inside is low high sum =
    let here : IsDigit (get_or front count 0) = (omega (arith, is), omega (arith, is)) in
    let value : digits_value 10 (take (count + 1) front)
    ≡ digits_value 10 (take count front) * 10 + digit_value (get_or front count 0) =
    ap (digits_value 10) (take_more front count 0 inside) ∙ pushed 0 (take count front) (get_or front count 0) in
    record {
      digits = below_more (λ i. IsDigit (get_or front i 0)) count far.digits here;
      number = value ∙ omega (arith, digit_value_digit (get_or front count 0) here, far.number, is, sum);
    }

prefix : (text : List ℕ) (count : ℕ) → ((i : ℕ) → i < count → IsDigit (get_or text i 0)) → AreDigits (take count text)
prefix text count each i less =
    let before : i < count = omega (arith, length-take count text) in
    subst IsDigit (sym (get_or-take count text i 0 before)) (each i before)

pub digits_small : (front : List ℕ) (n count : ℕ) → AreDigitsTo front n count → count ≤ 18 → n < 10 ^ 18
digits_small front n count far few =
    subst (λ m. m < 10 ^ 18) far.number
    (digits_value_short own (take count front) 18 (prefix front count far.digits) (omega (arith, length-take count front)))

pub leading_found : (text : List ℕ) (n count : ℕ) → AreLeadingDigits text n count → 1 ≤ count
    → (get_or text 0 0 ≡ 48 → count ≡ 1) → ¬ StartsWithDigit (drop count text)
    → (n < 10 ^ 19) × BeginsWithDecimal text (decimal n) (drop count text)
leading_found text n count are some lead ends =
    let ds : List ℕ = take count text in
    let size : length ds ≡ count = length-take-le count text are.within in
    let each : AreDigits ds = prefix text count are.digits in
    let small : digits_value 10 ds < 10 ^ 19 = digits_value_short own ds 19 each (omega (arith, size, are.few)) in
    let first : get_or ds 0 0 ≡ get_or text 0 0 = get_or-take count text 0 0 some in
    let is : decimal n ≡ ds =
    ap decimal (sym are.number)
    ∙ decimal-digits_value own ds each (omega (arith, size)) (λ e. size ∙ lead (sym first ∙ e)) (omega (arith, small)) in (
      omega (arith, small, are.number),
      record { whole = sym (take-append-drop count text) ∙ ap (λ front. front ++ drop count text) (sym is); ends = ends },
    )

digit_first : (text : List ℕ) (i : ℕ) → i < length text → IsDigit (get_or text i 0) → StartsWithDigit (drop i text)
digit_first [] i less digit = absurd (omega arith)
digit_first (x ∷ xs) zero less digit = digit
digit_first (x ∷ xs) (suc i) less digit = digit_first xs i (omega arith) digit

-- the later bytes of what is written are digits
abbrev pub AreDigitsAfterFirst : List ℕ → Type 0
AreDigitsAfterFirst ds = (i : ℕ) → 1 ≤ i → i < length ds → IsDigit (get_or ds i 0)

not_shorter : (text a b r s : List ℕ) → text ≡ a ++ r → text ≡ b ++ s → 1 ≤ length a → AreDigitsAfterFirst b
    → ¬ StartsWithDigit r → length b ≤ length a
not_shorter text a b r s e f some each none =
    elim (cases_lt (length a) (length b)) [
      | inl less ↦
          let inside : length a < length text = omega (arith, ap length f, length-append b s) in
          let here : get_or text (length a) 0 ≡ get_or b (length a) 0 =
          ap (λ xs. get_or xs (length a) 0) f ∙ get_or_append_left b s 0 (length a) less in
          let digit : StartsWithDigit (drop (length a) text) =
          digit_first text (length a) inside (subst IsDigit (sym here) (each (length a) some less)) in
          absurd (none (subst StartsWithDigit (ap (drop (length a)) e ∙ drop_at a r (length a) refl) digit))
      | inr more ↦ more
    ]

pub one_beginning : (text a b r s : List ℕ) → BeginsWithDecimal text a r → BeginsWithDecimal text b s → 1 ≤ length a
    → 1 ≤ length b
    → AreDigitsAfterFirst a → AreDigitsAfterFirst b → (a ≡ b) × (r ≡ s)
one_beginning text a b r s x y some other each all =
    let long : length b ≤ length a = not_shorter text a b r s x.whole y.whole some all x.ends in
    let short : length a ≤ length b = not_shorter text b a s r y.whole x.whole other each y.ends in
    let same : length b ≡ length a = omega arith in
    let e : a ++ r ≡ b ++ s = sym x.whole ∙ y.whole in (
      sym (take_at a r (length a) refl) ∙ ap (take (length a)) e ∙ take_at b s (length a) same,
      sym (drop_at a r (length a) refl) ∙ ap (drop (length a)) e ∙ drop_at b s (length a) same,
    )

pub decimal_digits : (n : ℕ) → n < 10 ^ 19 → AreDigits (decimal n)
decimal_digits n small i less = digit_at (decimal n) i (decimal_is_IsNumeral n (omega arith)).0.1 less

pub some_digit : (n : ℕ) → n < 10 ^ 19 → 1 ≤ length (decimal n)
some_digit n small = decimal_nonempty n (omega arith)

pub one_natural : (text : List ℕ) (n m : ℕ) (r s : List ℕ) → BeginsWithDecimal text (decimal n) r
    → BeginsWithDecimal text (decimal m) s
    → n < 10 ^ 19 → m < 10 ^ 19 → n ≡ m
one_natural text n m r s x y small few =
    decimal_injective n m (omega arith) (omega arith)
    (one_beginning text (decimal n) (decimal m) r s x y (some_digit n small) (some_digit m few)
    (λ i some. decimal_digits n small i) (λ i some. decimal_digits m few i)).0

leading_count : (text : List ℕ) (n count m : ℕ) (rest : List ℕ) → AreLeadingDigits text n count → m < 10 ^ 19
    → BeginsWithDecimal text (decimal m) rest → count ≡ length (decimal m)
leading_count text n count m rest are small begins =
    let ds : List ℕ = decimal m in
    let few : length ds ≤ 19 = length-decimal-le 19 m (omega arith) small (omega arith) in
    let whole : length text ≡ length ds + length rest = ap length begins.whole ∙ length-append ds rest in
    elim (cases_order count (length ds)) [
      | inl same ↦ same
      | inr (inl less) ↦
          let here : get_or text count 0 ≡ get_or ds count 0 =
          ap (λ xs. get_or xs count 0) begins.whole ∙ get_or_append_left ds rest 0 count less in
          absurd (are.ends (omega arith)
          (digit_first text count (omega arith) (subst IsDigit (sym here) (decimal_digits m small count less))))
      | inr (inr more) ↦
          let within : count ≤ length text = are.within in
          let digit : StartsWithDigit (drop (length ds) text) =
          digit_first text (length ds) (omega arith) (are.digits (length ds) more) in
          absurd (begins.ends
          (subst StartsWithDigit (ap (drop (length ds)) begins.whole ∙ drop_at ds rest (length ds) refl) digit))
    ]

lead_of : (m : ℕ) → m < 10 ^ 19 → get_or (decimal m) 0 0 ≡ 48 → length (decimal m) ≡ 1
lead_of zero small e = ap length (decimal_digit 0 (omega arith))
lead_of (suc m) small e = absurd (omega (arith, first_decimal (suc m) (omega arith) (omega arith)))

pub record IsDecimalAt (text : List ℕ) (count : ℕ) : Type 0 where
  pub some : 1 ≤ count
  pub lead : get_or text 0 0 ≡ 48 → count ≡ 1
  pub ends : ¬ StartsWithDigit (drop count text)

pub leading_lost : (text : List ℕ) (n count m : ℕ) (rest : List ℕ) → AreLeadingDigits text n count → m < 10 ^ 19
    → BeginsWithDecimal text (decimal m) rest → IsDecimalAt text count
leading_lost text n count m rest are small begins =
    let ds : List ℕ = decimal m in
    let same : count ≡ length ds = leading_count text n count m rest are small begins in
    let first : get_or text 0 0 ≡ get_or ds 0 0 =
    ap (λ xs. get_or xs 0 0) begins.whole ∙ get_or_append_left ds rest 0 0 (some_digit m small) in
    record {
      some = omega (arith, some_digit m small);
      lead = λ e. same ∙ lead_of m small (sym first ∙ e);
      ends = subst (λ xs. ¬ StartsWithDigit xs)
          (sym (ap (drop count) begins.whole ∙ drop_at ds rest count (sym same))) begins.ends;
    }
