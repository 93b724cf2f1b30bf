-- An interrupted flush has changed nothing.
use Rattle.dg_system.proofs.Common.{Keeps}
use Rattle.dg_system.proofs.retry.retry_flush.Given as goal

abbrev pub invariant-loop : goal.invariant-loop
invariant-loop g l = Keeps (g.O.Write.contents l.initial.writer) (g.O.Write.contents l.writer)
