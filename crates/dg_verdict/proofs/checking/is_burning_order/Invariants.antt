use Rattle.dg_verdict.proofs.Common.{take, in_set, at}
use Rattle.dg_verdict.proofs.Orders.{IsOrderSoFar}
use Rattle.dg_verdict.proofs.checking.is_burning_order.Given as goal

abbrev pub invariant-loop-i : goal.invariant-loop-i
invariant-loop-i l = IsOrderSoFar l.graph l.q (at l.chips) (take l.i l.order) l.i (in_set l.reached)
