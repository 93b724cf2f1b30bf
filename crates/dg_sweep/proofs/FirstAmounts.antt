-- The first word of a line, read as a number.
--   word_alone, word_before   the word of a number that nothing follows, or a space
--   word_none                 where the text begins with no number, the word is none
--   word_other                where another byte follows the number, the word is none
use Rattle.dg_sweep.proofs.Common.{◌≡◌, ◌≢◌, ℕ, suc, ℤ, pos, negsuc, true, false, List, [], ◌∷◌, ◌++◌, length, Option, Some, None, get_or, FitsSigned, w64, refl, sym, ap, ◌∙◌, inl, inr, arith, append-nil, decimal, signed_decimal, ◌==◌, ◌≤◌, ◌⊎◌, ◌-◌, take, drop, decimal_is_IsNumeral, digit_from_value, ne_eqb, eqb-true, AllDigits, BeginsWithDecimal, StartsWithDigit, one_rest, before, after, false≢true, take_rest}

-- bytes that are no space
abbrev HasNoSpace : List ℕ → Type 0
HasNoSpace xs = (rest : List ℕ) → (before 32 (xs ++ rest) ≡ xs ++ before 32 rest) × (after 32 (xs ++ rest) ≡ after 32 rest)

no_space-cons : (x : ℕ) (xs : List ℕ) → x ≢ 32 → HasNoSpace xs → HasNoSpace (x ∷ xs)
unfolding before after
no_space-cons x xs other none rest =
    let no : (x == 32) ≡ false = ne_eqb x 32 other in
    (rw no (ap (λ ys. x ∷ ys) (none rest).0), rw no (none rest).1)

no_space-digits : (ds : List ℕ) → AllDigits 10 ds → HasNoSpace ds
no_space-digits [] digits = λ rest. (refl, refl)
no_space-digits (d ∷ ds) digits =
    no_space-cons d ds (λ e. omega (arith, digit_from_value d digits.0)) (no_space-digits ds digits.1)

no_space : (z : ℤ) → FitsSigned w64 z → HasNoSpace (signed_decimal z)
no_space (pos n) fits = no_space-digits (decimal n) (decimal_is_IsNumeral n (omega (arith, fits.sfits))).0.1
no_space (negsuc n) fits =
    no_space-cons 45 (decimal (suc n)) (λ e. omega arith)
    (no_space-digits (decimal (suc n)) (decimal_is_IsNumeral (suc n) (omega (arith, fits.sfits))).0.1)

pub record IsFirst (text : List ℕ) (z : ℤ) (next : Option (List ℕ)) : Type 0 where
  pub word : before 32 text ≡ signed_decimal z
  pub follows : next ≡ after 32 text

pub word_alone : (text rest : List ℕ) (z : ℤ) → FitsSigned w64 z → BeginsWithDecimal text (signed_decimal z) rest → rest ≡ []
    → IsFirst text z None
unfolding before after
word_alone text rest z fits begins none =
    let e : text ≡ signed_decimal z ++ [] = begins.whole ∙ ap (λ r. signed_decimal z ++ r) none in
    let cut = no_space z fits [] in
    record { word = ap (before 32) e ∙ cut.0 ∙ append-nil (signed_decimal z); follows = sym (ap (after 32) e ∙ cut.1) }

pub word_before : (text rest more : List ℕ) (z : ℤ) → FitsSigned w64 z → BeginsWithDecimal text (signed_decimal z) rest
    → rest ≡ 32 ∷ more → IsFirst text z (Some more)
unfolding before after
word_before text rest more z fits begins space =
    let e : text ≡ signed_decimal z ++ 32 ∷ more = begins.whole ∙ ap (λ r. signed_decimal z ++ r) space in
    let cut = no_space z fits (32 ∷ more) in
    record { word = ap (before 32) e ∙ cut.0 ∙ append-nil (signed_decimal z); follows = sym (ap (after 32) e ∙ cut.1) }

-- what follows the first word
record Tail (text : List ℕ) : Type 0 where
  rest : List ℕ
  whole : text ≡ before 32 text ++ rest
  ends : (rest ≡ []) ⊎ ((1 ≤ length rest) × (get_or rest 0 0 ≡ 32))

tail : (text : List ℕ) → Tail text
unfolding before
tail [] = record { rest = []; whole = refl; ends = inl refl }
tail (x ∷ xs) =
    elim (x == 32) as (λ t. (x == 32) ≡ t → Tail (x ∷ xs)) [
      | true ↦ λ e. record {
        rest = x ∷ xs;
        whole = rw e refl;
        ends = inr (omega arith, eqb-true x 32 e);
      }
      | false ↦ λ e. let next = tail xs in record {
        rest = next.rest;
        whole = rw e (ap (λ ys. x ∷ ys) next.whole);
        ends = next.ends;
      }
    ] refl

no_digit : (rest : List ℕ) → (rest ≡ []) ⊎ ((1 ≤ length rest) × (get_or rest 0 0 ≡ 32)) → ¬ StartsWithDigit rest
no_digit [] ends digit = digit
no_digit (x ∷ xs) (inl none) digit = absurd (omega (arith, ap length none))
no_digit (x ∷ xs) (inr space) digit = omega (arith, space.1)

word_begins : (text : List ℕ) (z : ℤ) → before 32 text ≡ signed_decimal z
    → BeginsWithDecimal text (signed_decimal z) (tail text).rest
word_begins text z is =
    let next = tail text in
    record { whole = next.whole ∙ ap (λ front. front ++ next.rest) is; ends = no_digit next.rest next.ends }

pub word_none : (text : List ℕ)
    → ((z : ℤ) (rest : List ℕ) → FitsSigned w64 z → ¬ BeginsWithDecimal text (signed_decimal z) rest)
    → (z : ℤ) → FitsSigned w64 z → before 32 text ≢ signed_decimal z
word_none text never z fits is = never z (tail text).rest fits (word_begins text z is)

pub word_other : (text rest : List ℕ) (y : ℤ) → FitsSigned w64 y → BeginsWithDecimal text (signed_decimal y) rest
    → ¬ (rest ≡ []) → get_or rest 0 0 ≢ 32 → (z : ℤ) → FitsSigned w64 z → before 32 text ≢ signed_decimal z
word_other text rest y fits begins some other z fits' is =
    let next = tail text in
    let same : rest ≡ next.rest = one_rest text y z rest next.rest fits fits' begins (word_begins text z is) in
    elim next.ends [
      | inl none ↦ some (same ∙ none)
      | inr space ↦ other (ap (λ xs. get_or xs 0 0) same ∙ space.1)
    ]

pub space_again : (rest : List ℕ) → false ≡ (length rest == 0) → get_or rest 0 0 ≡ 32
    → rest ≡ 32 ∷ take (length rest - 1) (drop 1 rest)
space_again [] some space = absurd (false≢true some)
space_again (x ∷ xs) some space = rw (take_rest (x ∷ xs) 1) (ap (λ y. y ∷ xs) space)
