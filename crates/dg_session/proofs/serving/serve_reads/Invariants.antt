-- All that was read is handled but what is pending, all that there was to say is written, and no read failed.
use Rattle.dg_session.proofs.Common.{◌≡◌, length, [], Some, passage, setup_of, heard, so_far, READ_SIZE}
use Rattle.dg_session.proofs.SessionLaws.{IsSoFar, bytes_left}
use Rattle.dg_session.proofs.serving.serve_reads.Given as goal

abbrev pub invariant-reads : goal.invariant-reads
invariant-reads g l =
    IsSoFar (setup_of l.shared.how g.N.Name.table l.shared.names.now l.shared.workers)
    (passage l.fn.reader.remaining l.reader.remaining) (passage l.fn.writer.contents l.writer.contents) l.fn.seats
    (so_far l.progress l.seats)
    × (heard l.progress.said.text ≡ Some [])
    × (length l.buffer.items ≡ READ_SIZE)
    × (l.reader.has_failed ≡ l.fn.reader.has_failed)

abbrev pub decreases-reads : goal.decreases-reads
decreases-reads g l = bytes_left l.progress.pending.items l.progress.count
