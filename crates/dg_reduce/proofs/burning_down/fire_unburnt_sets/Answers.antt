use Rattle.dg_reduce.proofs.Common.{distance_from, distance_from-is, in_set, times_held}
use Rattle.dg_reduce.proofs.BurningSteps.{burning_down-start, burning_down-more, burning_down-falls, burning_down-chips, burning_down-script}
use Rattle.dg_reduce.proofs.Cleared.{cleared_levels}
use Rattle.dg_reduce.proofs.burning_down.fire_unburnt_sets.Goals as goal

pub burning-init : goal.burning-init
burning-init c =
    burning_down-start c.args.graph.now c.args.q (distance_from c.args.graph.now c.args.q) c.args.walk.now
    (distance_from-is c.args.graph.now c.args.q c.requires.graph.multigraph c.requires.vertex)
    (cleared_levels _ _ _ c.requires.graph c.requires.vertex c.requires.cleared)

pub next_firing-requires-clause-range : goal.next_firing-requires-clause-range
next_firing-requires-clause-range c =
    burning_down-chips c.args.graph.now c.args.q (distance_from c.args.graph.now c.args.q) c.args.walk.now c.burning.now
    c.requires.graph c.requires.vertex (cleared_levels _ _ _ c.requires.graph c.requires.vertex c.requires.cleared)
    c.burning.invariant

pub fired-now-requires-clause-chips : goal.fired-now-requires-clause-chips
fired-now-requires-clause-chips c =
    burning_down-chips c.args.graph.now c.args.q (distance_from c.args.graph.now c.args.q) c.args.walk.now c.burning.now
    c.requires.graph c.requires.vertex (cleared_levels _ _ _ c.requires.graph c.requires.vertex c.requires.cleared)
    c.burning.invariant

pub fired-now-requires-clause-script : goal.fired-now-requires-clause-script
fired-now-requires-clause-script c =
    burning_down-script c.args.graph.now c.args.q
    (distance_from c.args.graph.now c.args.q) c.args.walk.now c.burning.now
    c.requires.graph c.requires.vertex (cleared_levels _ _ _ c.requires.graph c.requires.vertex c.requires.cleared)
    c.burning.invariant c.requires.range

pub fired-now-requires-clause-times : goal.fired-now-requires-clause-times
fired-now-requires-clause-times c = rw (times_held c.in-Some.times c.in-Some.ensures.few) c.in-Some.ensures.few

pub burning-smaller : goal.burning-smaller
burning-smaller c =
    let (v, member) = c.in-Some.ensures.member in
    burning_down-falls c.args.graph.now c.args.q (distance_from c.args.graph.now c.args.q)
    (in_set c.in-Some.set) c.in-Some.times
    c.args.walk.now c.burning.now c.fired-now.result v c.requires.graph
    (distance_from-is c.args.graph.now c.args.q c.requires.graph.multigraph c.requires.vertex) c.burning.invariant
    c.in-Some.ensures.free.without c.in-Some.ensures.most (c.in-Some.ensures.free.vertices v member) member
    (rw (times_held c.in-Some.times c.in-Some.ensures.few) at (c.fired-now.ensures))

pub burning-preserved : goal.burning-preserved
burning-preserved c =
    burning_down-more c.args.graph.now c.args.q (in_set c.in-Some.set) c.in-Some.times c.args.walk.now c.burning.now
    c.fired-now.result c.requires.graph c.requires.vertex c.burning.invariant c.in-Some.ensures.free.without
    c.in-Some.ensures.most (rw (times_held c.in-Some.times c.in-Some.ensures.few) at (c.fired-now.ensures))
