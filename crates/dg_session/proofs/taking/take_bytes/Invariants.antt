-- All but the rest is taken.
use Rattle.dg_session.proofs.Common.{length, passage, setup_of, heard, so_far, Says}
use Rattle.dg_session.proofs.taking.take_bytes.Given as goal

abbrev pub invariant-parts : goal.invariant-parts
invariant-parts g l =
    Says (setup_of l.shared.how g.N.Name.table l.shared.names.now l.shared.workers) ⊥
    (so_far l.fn.progress l.fn.seats) l.bytes l.rest (so_far l.progress l.seats)
    (passage (heard l.fn.progress.said.text) (heard l.progress.said.text))

abbrev pub decreases-parts : goal.decreases-parts
decreases-parts g l = length l.rest
