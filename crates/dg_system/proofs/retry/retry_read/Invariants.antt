-- The buffer keeps its length, and an interrupted read has consumed nothing.
use Rattle.dg_system.proofs.Common.{◌≡◌, length, Keeps}
use Rattle.dg_system.proofs.retry.retry_read.Given as goal

abbrev pub invariant-loop : goal.invariant-loop
invariant-loop g l = (length l.buffer ≡ length l.initial.buffer)
    × Keeps (g.I.Read.remaining l.initial.reader) (g.I.Read.remaining l.reader)
