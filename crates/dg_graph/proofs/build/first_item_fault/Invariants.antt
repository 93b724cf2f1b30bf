use Rattle.dg_graph.proofs.Common.{AreItemsBefore}
use Rattle.dg_graph.proofs.build.first_item_fault.Given as goal

abbrev pub invariant-loop-i : goal.invariant-loop-i
invariant-loop-i l = AreItemsBefore l.size l.items l.i
