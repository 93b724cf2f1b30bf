use Rattle.dg_chips.proofs.Common.{arith, ints, in_set}
use Rattle.dg_chips.proofs.VectorLaws.{filled_more}
use Rattle.dg_chips.proofs.SetLending.{lends-once}
use Rattle.dg_chips.proofs.drift.Drift.plus_set.Goals as goal

pub loop-v-preserved : goal.loop-v-preserved
loop-v-preserved c =
    let (once, few) = lends-once (in_set c.args.set) c.loop-v.v c.contains.result c.from.result
    c.contains.ensures c.from.ensures in
    filled_more _ _ _ _ (omega arith) (omega (arith, ints)) c.loop-v.invariant
