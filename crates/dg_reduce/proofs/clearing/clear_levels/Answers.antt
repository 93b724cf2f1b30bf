use Rattle.dg_reduce.proofs.Common.{◌≡◌, ◌+◌, ◌-◌, arith}
use Rattle.std.specs.Prelude.{slice_index}
use Rattle.dg_reduce.proofs.Ties.{cleared-start}
use Rattle.dg_reduce.proofs.clearing.clear_levels.Goals as goal

pub levels-init : goal.levels-init
levels-init c =
    let place : (c.size-level.result - 1) + 1 ≡ c.args.graph.now.size = omega (arith, c.requires.graph.some) in
    record {
      few = omega (arith, c.requires.graph.few);
      cleared = rw place (cleared-start c.args.graph.now c.requires.distance.0
          (slice_index c.args.levels.now) c.new-walk.result c.requires.graph
          c.requires.distance.1 c.new-walk.ensures.tied
          (λ v inside. rw (c.new-walk.ensures.chips) (c.requires.range v inside))
          c.new-walk.ensures.script);
      begun = c.new-walk.ensures.start;
    }
