use Rattle.dg_chips.proofs.Common.{◌≤◌, ◌^◌, arith, unsigned_abs, ints, at}
use Rattle.dg_chips.proofs.VectorLaws.{filled_more}
use Rattle.dg_chips.proofs.wide.Wide.plus_at_set.Goals as goal

pub loop-v-preserved : goal.loop-v-preserved
loop-v-preserved c =
    let small : unsigned_abs (at c.args.self.now c.loop-v.v) ≤ 2 ^ 126 = c.requires.range c.loop-v.v (omega arith) in
    filled_more _ _ _ _ (omega arith) (omega (arith, ints)) c.loop-v.invariant

pub overflow_add-amounts : goal.overflow_add-amounts
overflow_add-amounts c =
    let small : unsigned_abs (at c.args.self.now c.loop-v.v) ≤ 2 ^ 126 = c.requires.range c.loop-v.v (omega arith) in
    omega (arith, ints, c.lendings.ensures.limit)
