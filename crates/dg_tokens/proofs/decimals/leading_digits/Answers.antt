-- The digits so far come to less than 10^18, if there are fewer than 19; one more keeps what is said.
use Rattle.dg_tokens.proofs.Common.{◌≤◌, refl, arith, length-take}
use Rattle.dg_tokens.proofs.Reading.{digits_small, digits_more}
use Rattle.dg_tokens.proofs.decimals.leading_digits.Goals as goal

pub overflow_mul-number : goal.overflow_mul-number
overflow_mul-number c =
    let few : c.loop-count.count ≤ 18 = omega (arith, length-take c.min.result c.args.text.now) in
    let small = digits_small _ _ _ c.loop-count.invariant few in
    omega arith

pub overflow_add-number : goal.overflow_add-number
overflow_add-number c =
    let few : c.loop-count.count ≤ 18 = omega (arith, length-take c.min.result c.args.text.now) in
    let small = digits_small _ _ _ c.loop-count.invariant few in
    omega arith

pub loop-count-preserved : goal.loop-count-preserved
loop-count-preserved c =
    digits_more _ _ _ _ _ c.loop-count.invariant c.loop-count-test.true refl c.if-byte-lt48.false c.if-byte-gt57.false
    (omega arith)
