use Rattle.dg_verdict.proofs.Common.{arith, in_set, in_set-none, at}
use Rattle.dg_verdict.proofs.Orders.{order-first, order-more, order-done, order-fails}
use Rattle.dg_verdict.proofs.checking.is_burning_order.Goals as goal

pub loop-i-init : goal.loop-i-init
loop-i-init c =
    order-first c.args.graph.now c.args.q (at c.args.chips.now) c.args.order.now (in_set 0) _ c.requires.vertex
    (omega arith)
    (grind arith) in_set-none c.with_vertex-reached.ensures

pub returns-then-not-may_burn : goal.returns-then-not-may_burn
returns-then-not-may_burn c =
    order-fails c.args.graph.now c.args.q (at c.args.chips.now) c.args.order.now c.loop-i.i (in_set c.loop-i.reached)
    c.loop-i.invariant (omega arith) (omega arith) (omega (arith, c.size-size.ensures.graph.few)) (grind arith)

pub loop-i-preserved : goal.loop-i-preserved
loop-i-preserved c =
    order-more c.args.graph.now c.args.q (at c.args.chips.now) c.args.order.now c.loop-i.i (in_set c.loop-i.reached) _
    c.from-v.result c.loop-i.invariant (omega (arith, c.size-size.ensures.graph.few))
    (grind arith) c.if-not-may_burn.ensures
    c.with_vertex-reached-in-loop-i.ensures

pub returns : goal.returns
returns c =
    order-done c.args.graph.now c.args.q (at c.args.chips.now) c.args.order.now c.loop-i.i (in_set c.loop-i.reached)
    c.loop-i.invariant (omega arith)
