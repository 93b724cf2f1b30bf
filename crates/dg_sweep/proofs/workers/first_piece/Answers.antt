use Rattle.dg_sweep.proofs.Common.{part_line}
use Rattle.dg_sweep.proofs.Taken.{front_ends}
use Rattle.dg_sweep.proofs.workers.first_piece.Goals as goal

pub slice_bounds-result-count : goal.slice_bounds-result-count
slice_bounds-result-count c =
    (front_ends c.args.bytes.now c.split_at.result.0.now c.split_at.result.1.now c.cut.result.0.now c.in-Some.after.now
    _
    c.split_at.ensures.front c.split_at.ensures.back
    (part_line c.split_at.result.1.now c.cut.result.0.now c.cut.result.1 c.in-Some.after c.cut.ensures.before
    c.cut.ensures.after c.in-Some.is)).0

pub returns : goal.returns
returns c =
    let (within, ends, whole) =
    front_ends c.args.bytes.now c.split_at.result.0.now c.split_at.result.1.now c.cut.result.0.now
    c.in-Some.after.now _ c.split_at.ensures.front c.split_at.ensures.back
    (part_line c.split_at.result.1.now c.cut.result.0.now c.cut.result.1 c.in-Some.after c.cut.ensures.before
    c.cut.ensures.after c.in-Some.is) in
    (ends, whole)
