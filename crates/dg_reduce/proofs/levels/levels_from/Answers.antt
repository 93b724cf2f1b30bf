use Rattle.dg_reduce.proofs.Common.{arith, slice_index, IsGradual, gradual-few}
use Rattle.dg_reduce.proofs.Gradual.{gradual-distance}
use Rattle.dg_reduce.proofs.Reaching.{levels-first, reached-gradual}
use Rattle.dg_reduce.proofs.levels.levels_from.Goals as goal

pub loop-level-init : goal.loop-level-init
loop-level-init c =
    levels-first c.args.graph.now c.args.q c.size-size.result c.requires c.size-size.ensures.size
    (omega (arith, c.size-size.ensures.size, c.size-size.ensures.graph.few))

pub returns : goal.returns
returns c =
    let gradual : IsGradual c.args.graph.now c.args.q (slice_index c.loop-level.levels) =
    reached-gradual c.args.graph.now c.args.q c.loop-level.level 0
    (slice_index c.loop-level.levels) c.loop-level.invariant (omega arith) in
    gradual-distance c.args.graph.now c.args.q (slice_index c.loop-level.levels) c.size-size.ensures.graph.multigraph
    gradual c.requires
    (λ v vertex other. c.loop-level.invariant.nearer v vertex other
    (gradual-few c.args.graph.now c.args.q
    (slice_index c.loop-level.levels) v c.size-size.ensures.graph.multigraph gradual
    c.requires vertex))
