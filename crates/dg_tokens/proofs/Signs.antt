-- The decimals of whole numbers with a sign, with which a text begins.
--   plain_lost       without a minus it is that of a number that is not negative
--   minus_lost       after a minus it is that of a number above 0
--   whole_again      a text that begins with a minus is that and what stands after it
--   integer_found, integer_lost   the text has no rest; or it has one, and is the decimal of no number
--   none_left, some_left          whether there is a rest, as a test says
use Rattle.dg_tokens.proofs.Common.{◌≡◌, ◌≢◌, ℕ, ℤ, zero, suc, pos, negsuc, ◌-◌, ◌<◌, ◌≤◌, ◌^◌, List, [], ◌∷◌, ◌++◌, length, take, drop, get_or, refl, sym, ap, ◌∙◌, subst, arith, append-nil, decimal, signed_decimal, FitsSigned, w64, get_or_append_left, take_rest, true, false, ◌==◌, eqb-true, false≢true, BeginsWithDecimal}
use Rattle.dg_tokens.proofs.Reading.{IsDigit, AreDigitsAfterFirst, decimal_digits, some_digit, one_beginning}

-- the bytes after a minus
pub record IsMinus (digits rest : List ℕ) (z : ℤ) : Type 0 where
  pub below : ℕ
  pub is : z ≡ negsuc below
  pub few : suc below ≤ 2 ^ 63
  pub begins : BeginsWithDecimal digits (decimal (suc below)) rest

pub record IsPlain (text rest : List ℕ) (z : ℤ) : Type 0 where
  pub number : ℕ
  pub is : z ≡ pos number
  pub few : number < 2 ^ 63
  pub begins : BeginsWithDecimal text (decimal number) rest

first_of : (n : ℕ) (rest : List ℕ) → n < 10 ^ 19 → IsDigit (get_or (decimal n ++ rest) 0 0)
first_of n rest small =
    subst IsDigit (sym (get_or_append_left (decimal n) rest 0 0 (some_digit n small)))
    (decimal_digits n small 0 (some_digit n small))

pub minus_lost : (digits rest : List ℕ) (z : ℤ) → FitsSigned w64 z → BeginsWithDecimal (45 ∷ digits) (signed_decimal z) rest
    → IsMinus digits rest z
minus_lost digits rest (pos n) fits begins =
    let digit = first_of n rest (omega (arith, fits.sfits)) in
    let first : 45 ≡ get_or (decimal n ++ rest) 0 0 = ap (λ xs. get_or xs 0 0) begins.whole in
    absurd (omega arith)
minus_lost digits rest (negsuc n) fits begins = record {
  below = n;
  is = refl;
  few = omega (arith, fits.sfits);
  begins = record { whole = ap (drop 1) begins.whole; ends = begins.ends };
}

pub plain_lost : (text rest : List ℕ) (z : ℤ) → FitsSigned w64 z → get_or text 0 0 ≢ 45
    → BeginsWithDecimal text (signed_decimal z) rest
    → IsPlain text rest z
plain_lost text rest (pos n) fits none begins = record { number = n; is = refl; few = omega (arith, fits.sfits); begins = begins }
plain_lost text rest (negsuc n) fits none begins = absurd (none (ap (λ xs. get_or xs 0 0) begins.whole))

pub whole_again : (text : List ℕ) → 1 ≤ length text → get_or text 0 0 ≡ 45
    → 45 ∷ take (length text - 1) (drop 1 text) ≡ text
whole_again [] some minus = absurd (omega arith)
whole_again (x ∷ xs) some minus = rw (take_rest (x ∷ xs) 1) (ap (λ y. y ∷ xs) (sym minus))

later : (z : ℤ) → FitsSigned w64 z → AreDigitsAfterFirst (signed_decimal z)
later (pos n) fits i some less = decimal_digits n (omega (arith, fits.sfits)) i less
later (negsuc n) fits zero some less = absurd (omega arith)
later (negsuc n) fits (suc i) some less = decimal_digits (suc n) (omega (arith, fits.sfits)) i (omega arith)

some_byte : (z : ℤ) → FitsSigned w64 z → 1 ≤ length (signed_decimal z)
some_byte (pos n) fits = some_digit n (omega (arith, fits.sfits))
some_byte (negsuc n) fits = omega arith

pub one_rest : (text : List ℕ) (y z : ℤ) (r s : List ℕ) → FitsSigned w64 y → FitsSigned w64 z
    → BeginsWithDecimal text (signed_decimal y) r → BeginsWithDecimal text (signed_decimal z) s → r ≡ s
one_rest text y z r s fits fits' x x' =
    (one_beginning text (signed_decimal y) (signed_decimal z) r s x x' (some_byte y fits) (some_byte z fits') (later y fits)
    (later z fits')).1

whole : (text : List ℕ) (z : ℤ) → text ≡ signed_decimal z → BeginsWithDecimal text (signed_decimal z) []
whole text z is = record { whole = is ∙ sym (append-nil (signed_decimal z)); ends = λ digit. digit }

pub integer_found : (text : List ℕ) (z : ℤ) (rest : List ℕ) → BeginsWithDecimal text (signed_decimal z) rest → rest ≡ []
    → text ≡ signed_decimal z
integer_found text z rest begins none =
    begins.whole ∙ ap (λ r. signed_decimal z ++ r) none ∙ append-nil (signed_decimal z)

pub integer_none : (text : List ℕ)
    → ((z : ℤ) (rest : List ℕ) → FitsSigned w64 z → ¬ BeginsWithDecimal text (signed_decimal z) rest)
    → (z : ℤ) → FitsSigned w64 z → text ≢ signed_decimal z
integer_none text never z fits is = never z [] fits (whole text z is)

pub integer_lost : (text : List ℕ) (y : ℤ) (rest : List ℕ) → FitsSigned w64 y → BeginsWithDecimal text (signed_decimal y) rest
    → ¬ (rest ≡ []) → (z : ℤ) → FitsSigned w64 z → text ≢ signed_decimal z
integer_lost text y rest fits begins some z fits' is =
    some (one_rest text y z rest [] fits fits' begins (whole text z is))

pub none_left : (rest : List ℕ) → true ≡ (length rest == 0) → rest ≡ []
none_left [] e = refl
none_left (x ∷ xs) e = absurd (omega (arith, eqb-true (length (x ∷ xs)) 0 (sym e)))

pub some_left : (rest : List ℕ) → false ≡ (length rest == 0) → ¬ (rest ≡ [])
some_left rest e none = false≢true (e ∙ ap (λ r. length r == 0) none)
