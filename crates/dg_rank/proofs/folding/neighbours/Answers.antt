use Rattle.dg_rank.proofs.Common.{arith, both_ways, in_set-none}
use Rattle.dg_rank.proofs.folding.neighbours.Goals as goal

pub loop-w-init : goal.loop-w-init
loop-w-init c = record {
  part = λ u member. absurd (both_ways _ (in_set-none u) member);
  all = λ u low _. absurd (omega arith);
}
