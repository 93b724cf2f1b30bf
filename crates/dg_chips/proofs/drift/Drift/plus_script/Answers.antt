use Rattle.dg_chips.proofs.Common.{arith, ints}
use Rattle.dg_chips.proofs.VectorLaws.{filled_more}
use Rattle.dg_chips.proofs.drift.Drift.plus_script.Goals as goal

pub loop-v-preserved : goal.loop-v-preserved
loop-v-preserved c =
    filled_more _ _ _ _ (omega arith) (omega (arith, ints)) c.loop-v.invariant
