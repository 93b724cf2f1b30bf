use Rattle.dg_chips.proofs.Common.{slice_index_or, pos}
use Rattle.dg_chips.proofs.VectorLaws.{IsFilled}
use Rattle.dg_chips.proofs.vector.to_i32s.Given as goal

abbrev pub invariant-loop-v : goal.invariant-loop-v
invariant-loop-v l = IsFilled l.narrowed l.v (λ w. slice_index_or l.numbers w (pos 0))
