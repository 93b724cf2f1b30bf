use Rattle.dg_chips.proofs.Common.{fired, indicator, multiple, in_set, at}
use Rattle.dg_chips.proofs.VectorLaws.{IsFilled}
use Rattle.dg_chips.proofs.wide.Wide.fired.Given as goal

abbrev pub invariant-loop-v : goal.invariant-loop-v
invariant-loop-v l = IsFilled l.amounts l.v (fired l.graph (at l.self) (multiple l.times (indicator (in_set l.set))))
