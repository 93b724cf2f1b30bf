-- All whole lines that were read are answered, their answers are written, and no read failed.
use Rattle.dg_sweep.proofs.Common.{◌≡◌, length, READ_SIZE}
use Rattle.dg_sweep.proofs.Swept.{HasSwept}
use Rattle.dg_sweep.specs.Kinds.{answers_of}
use Rattle.dg_sweep.proofs.sweeping.sweep_reads.Given as goal

abbrev pub invariant-reads : goal.invariant-reads
invariant-reads g l =
    HasSwept (answers_of l.context.kind.now) l.fn.reader.remaining l.reader.remaining
    l.fn.writer.contents l.writer.contents l.progress.pending.items
    × (length l.buffer.items ≡ READ_SIZE)
    × (l.reader.has_failed ≡ l.fn.reader.has_failed)
