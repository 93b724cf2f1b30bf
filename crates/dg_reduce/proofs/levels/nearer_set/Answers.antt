use Rattle.dg_reduce.proofs.Common.{arith, in_set-none}
use Rattle.dg_reduce.proofs.levels.nearer_set.Goals as goal

pub loop-v-init : goal.loop-v-init
loop-v-init c = record {
  same = λ u below. absurd (omega arith);
  rest = λ u _. in_set-none u;
}
