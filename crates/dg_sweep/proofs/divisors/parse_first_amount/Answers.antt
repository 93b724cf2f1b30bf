-- The number with which the text begins is the first word, if nothing follows it or a space does.
use Rattle.dg_sweep.proofs.Common.{FitsSigned, w64, rules, to_z-of_z}
use Rattle.dg_sweep.proofs.FirstAmounts.{word_alone, word_before, word_none, word_other, space_again}
use Rattle.dg_tokens.proofs.Signs.{none_left, some_left}
use Rattle.dg_sweep.proofs.divisors.parse_first_amount.Goals as goal

pub returns-in_err-amount : goal.returns-in_err-amount
returns-in_err-amount c = rw c.from_residual.ensures (word_none _ c.in_err-amount.ensures)

pub returns-then-is_empty : goal.returns-then-is_empty
returns-then-is_empty c =
    let fits : FitsSigned w64 c.in_ok-amount.amount = search rules in
    let is = word_alone _ _ _ fits c.in_ok-amount.ensures (none_left _ c.if-is_empty.ensures) in
    rw (to_z-of_z fits) (is.word, is.follows)

pub returns-then-rest-ne32 : goal.returns-then-rest-ne32
returns-then-rest-ne32 c =
    let fits : FitsSigned w64 c.in_ok-amount.amount = search rules in
    word_other _ _ _ fits c.in_ok-amount.ensures (some_left _ c.if-is_empty.ensures) c.if-rest-ne32.true

pub returns : goal.returns
returns c =
    let fits : FitsSigned w64 c.in_ok-amount.amount = search rules in
    let is = word_before _ _ _ _ fits c.in_ok-amount.ensures
    (space_again c.in_ok-amount.rest.now c.if-is_empty.ensures c.if-rest-ne32.false) in
    rw (to_z-of_z fits) (is.word, is.follows)
