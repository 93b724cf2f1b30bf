use Rattle.dg_reduce.proofs.Common.{◌≡◌, length, pos, slice_index_or, AreCapped}
use Rattle.dg_reduce.proofs.effective_divisor.capped_i32s.Given as goal

abbrev pub invariant-loop-v : goal.invariant-loop-v
invariant-loop-v l = record {
  places : length l.held ≡ 16;
  done : AreCapped l.v (λ v. slice_index_or l.amounts v (pos 0)) l.held;
}
