-- The decimals of whole numbers with a sign: what is none.
--   fits_within, within_fits   numbers within the limits of 64 bits fit, and no others
--   large_entry      the decimal of a number past the limit is not that of an entry of a script
--   other_degree     that of a number that is no degree is not that of a degree
use Rattle.dg_lines.proofs.Common.{◌<◌, ◌^◌, ◌-◌, unsigned_abs, ◌≡◌, ℕ, ℤ, pos, negsuc, neg_ℤ, List, sym, ◌∙◌, subst, arith, FitsSigned, w64, signed_decimal, signed_decimal_injective, ints, FitsUnsignedBits, ◌≤ℤ◌, MAX_ENTRY, IsNumeralWithin}

pub fits_within : (z : ℤ) → neg_ℤ (pos (2 ^ 63)) ≤ℤ z → z ≤ℤ pos (2 ^ 63 - 1) → FitsSigned w64 z
fits_within (pos n) low high = record { sfits = omega (arith, ints) }
fits_within (negsuc n) low high = record { sfits = omega (arith, ints) }

pub within_fits : (z : ℤ) → FitsSigned w64 z → (neg_ℤ (pos (2 ^ 63)) ≤ℤ z) × (z ≤ℤ pos (2 ^ 63 - 1))
within_fits (pos n) fits = (omega (arith, ints, fits.sfits), omega (arith, ints, fits.sfits))
within_fits (negsuc n) fits = (omega (arith, ints, fits.sfits), omega (arith, ints, fits.sfits))

pub entry_fits : (z : ℤ) → neg_ℤ (pos MAX_ENTRY) ≤ℤ z → z ≤ℤ pos MAX_ENTRY → FitsSigned w64 z
entry_fits z low high = fits_within z (omega (arith, ints)) (omega (arith, ints))

pub degree_fits : (z : ℤ) → pos 0 ≤ℤ z → z ≤ℤ pos (2 ^ 32 - 1) → FitsSigned w64 z
degree_fits z low high = fits_within z (omega (arith, ints)) (omega (arith, ints))

one_number : (text : List ℕ) (y z : ℤ) → FitsSigned w64 y → FitsSigned w64 z → text ≡ signed_decimal y
    → text ≡ signed_decimal z → y ≡ z
one_number text y z first second e f = signed_decimal_injective y z first.sfits second.sfits (sym e ∙ f)

pub large_entry : (text : List ℕ) (z : ℤ) → FitsSigned w64 z → text ≡ signed_decimal z → MAX_ENTRY < unsigned_abs z
    → IsNumeralWithin (neg_ℤ (pos MAX_ENTRY)) (pos MAX_ENTRY) text → ⊥
large_entry text z fits e large known =
    let same : known.number ≡ z =
    one_number text known.number z (entry_fits known.number known.not_less known.not_more) fits known.spelled e in
    let low : neg_ℤ (pos MAX_ENTRY) ≤ℤ z = subst (λ x. neg_ℤ (pos MAX_ENTRY) ≤ℤ x) same known.not_less in
    let high : z ≤ℤ pos MAX_ENTRY = subst (λ x. x ≤ℤ pos MAX_ENTRY) same known.not_more in
    omega (arith, ints)

within_degree : (z : ℤ) → pos 0 ≤ℤ z → z ≤ℤ pos (2 ^ 32 - 1) → FitsUnsignedBits 32 z
within_degree (pos n) low high = omega (arith, ints)
within_degree (negsuc n) low high = absurd (omega (arith, ints))

pub other_degree : (text : List ℕ) (z : ℤ) → FitsSigned w64 z → text ≡ signed_decimal z → (FitsUnsignedBits 32 z → ⊥)
    → IsNumeralWithin (pos 0) (pos (2 ^ 32 - 1)) text → ⊥
other_degree text z fits e other known =
    let same : known.number ≡ z =
    one_number text known.number z (degree_fits known.number known.not_less known.not_more) fits known.spelled e in
    other (subst (FitsUnsignedBits 32) same (within_degree known.number known.not_less known.not_more))
