-- What is refused is no decimal, and what is not is one.
use Rattle.dg_tokens.proofs.Common.{arith, sym, ◌∙◌, subst, take_rest, false≢true, StartsWithDigit}
use Rattle.dg_tokens.proofs.Reading.{leading_found, leading_lost}
use Rattle.dg_tokens.proofs.decimals.leading_natural.Goals as goal
use Rattle.dg_tokens.proofs.decimals.leading_natural.Goals.{else-count-gt1-via-then-count-gt1+else-text-eq48, else-count-gt1-via-else-count-gt1, else-count-eq-MAX_DIGITS-via-then-count-eq-MAX_DIGITS+else-starts_with_digit, else-count-eq-MAX_DIGITS-via-else-count-eq-MAX_DIGITS}

pub returns-then-count-eq0 : goal.returns-then-count-eq0
returns-then-count-eq0 c n rest small begins =
    let is = leading_lost _ _ _ n rest c.leading_digits-number.ensures small begins in
    omega (arith, is.some)

pub returns-then-text-eq48 : goal.returns-then-text-eq48
returns-then-text-eq48 c n rest small begins =
    let is = leading_lost _ _ _ n rest c.leading_digits-number.ensures small begins in
    omega (arith, is.lead c.if-text-eq48.true)

pub returns-then-starts_with_digit : goal.returns-then-starts_with_digit
returns-then-starts_with_digit c n rest small begins =
    let is = leading_lost _ _ _ n rest c.leading_digits-number.ensures small begins in
    is.ends
    (subst StartsWithDigit (take_rest c.args.text.now c.leading_digits-number.result.1)
    (c.starts_with_digit.ensures.0 c.if-starts_with_digit.true))

pub returns : goal.returns
returns c =
    rw (take_rest c.args.text.now c.leading_digits-number.result.1)
    (leading_found _ _ _ c.leading_digits-number.ensures (omega arith)
    (λ e. elim c.else-count-gt1.branch [
      | else-count-gt1-via-then-count-gt1+else-text-eq48 w ↦ absurd (w.if-text-eq48.false e)
      | else-count-gt1-via-else-count-gt1 w ↦ omega arith
    ])
    (λ digit. elim c.else-count-eq-MAX_DIGITS.branch [
      | else-count-eq-MAX_DIGITS-via-then-count-eq-MAX_DIGITS+else-starts_with_digit w ↦
          let yes = w.starts_with_digit.ensures.1
          (subst StartsWithDigit (sym (take_rest c.args.text.now c.leading_digits-number.result.1)) digit) in
          false≢true (sym w.if-starts_with_digit.false ∙ yes)
      | else-count-eq-MAX_DIGITS-via-else-count-eq-MAX_DIGITS w ↦
          c.leading_digits-number.ensures.ends (omega (arith, c.leading_digits-number.ensures.few)) digit
    ]))
