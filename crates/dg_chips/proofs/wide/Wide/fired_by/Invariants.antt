use Rattle.dg_chips.proofs.Common.{fired, at}
use Rattle.dg_chips.proofs.VectorLaws.{IsFilled}
use Rattle.dg_chips.proofs.wide.Wide.fired_by.Given as goal

abbrev pub invariant-loop-v : goal.invariant-loop-v
invariant-loop-v l = IsFilled l.amounts l.v (fired l.graph (at l.self) (at l.script))
