-- What is refused is the decimal of no number.
use Rattle.dg_tokens.proofs.Common.{arith}
use Rattle.dg_tokens.proofs.Reading.{one_natural}
use Rattle.dg_tokens.proofs.Signs.{plain_lost}
use Rattle.dg_tokens.proofs.decimals.leading_nonnegative.Goals as goal

pub returns-in_default : goal.returns-in_default
returns-in_default c z rest fits begins =
    let lost = plain_lost _ rest z fits c.requires begins in
    c.in_default.ensures lost.number rest (omega (arith, lost.few)) lost.begins

pub returns-in-Err : goal.returns-in-Err
returns-in-Err c z rest fits begins =
    let lost = plain_lost _ rest z fits c.requires begins in
    let same = one_natural _ c.in-Some.number lost.number _ _ c.in-Some.ensures.1 lost.begins c.in-Some.ensures.0
    (omega (arith, lost.few)) in
    c.in-Err.ensures (record { sfits = omega (arith, same, lost.few) })
