use Rattle.dg_analyst.proofs.Common.{◌<◌, Some, None}
use Rattle.dg_analyst.proofs.Kept.{look_kept}
use Rattle.dg_analyst.proofs.looking.look.Goals as goal

pub unreachable-requires : goal.unreachable-requires
unreachable-requires g c =
    let (history, entered) = c.in_ok-receipt.ensures.answered in
    look_kept c.args.seat.now.mine c.call.new.seat.mine c.in_ok-receipt.receipt None entered.request' entered.mine
    c.in_default.ensures

pub invariant_of-result : goal.invariant_of-result
invariant_of-result g c =
    let (history, entered) = c.in_ok-receipt.ensures.answered in
    let shown = c.in-Some.shown.now in
    let kept = look_kept c.args.seat.now.mine c.call.new.seat.mine c.in_ok-receipt.receipt (Some shown) entered.request'
    entered.mine c.in-Some.ensures.0 in
    let vertices = c.in-Some.ensures.1 in
    let start = rw c.start-start.ensures at c.graph-graph.ensures.start.vertex in
    let vertex : c.q.result < shown.graph.size = rw (c.q.ensures, vertices.0, c.start-start.ensures) start in
    (record { look = kept; vertices = vertices }, cc, vertex)
