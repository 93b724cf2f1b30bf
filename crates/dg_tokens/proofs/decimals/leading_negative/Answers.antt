-- What is refused is the decimal of no negative number, and what is not is that of one.
use Rattle.dg_tokens.proofs.Common.{suc, arith}
use Rattle.dg_tokens.proofs.Reading.{one_natural}
use Rattle.dg_tokens.proofs.Signs.{minus_lost}
use Rattle.dg_tokens.proofs.decimals.leading_negative.Goals as goal

pub returns-in_default : goal.returns-in_default
returns-in_default c z rest fits begins =
    let lost = minus_lost _ rest z fits begins in
    c.in_default.ensures (suc lost.below) rest (omega (arith, lost.few)) lost.begins

pub returns-then-number-eq0 : goal.returns-then-number-eq0
returns-then-number-eq0 c z rest fits begins =
    let lost = minus_lost _ rest z fits begins in
    let same = one_natural _ c.in-Some.number (suc lost.below) _ _ c.in-Some.ensures.1 lost.begins c.in-Some.ensures.0
    (omega (arith, lost.few)) in
    omega arith

pub returns-in-Err : goal.returns-in-Err
returns-in-Err c z rest fits begins =
    let lost = minus_lost _ rest z fits begins in
    let same = one_natural _ c.in-Some.number (suc lost.below) _ _ c.in-Some.ensures.1 lost.begins c.in-Some.ensures.0
    (omega (arith, lost.few)) in
    c.in-Err.ensures (record { sfits = omega (arith, same, lost.few) })
