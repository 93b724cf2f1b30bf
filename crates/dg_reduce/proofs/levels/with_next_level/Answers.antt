use Rattle.dg_reduce.proofs.Common.{arith, slice_index}
use Rattle.dg_reduce.proofs.Reaching.{reached-passed, reached-other, reached-next}
use Rattle.dg_reduce.proofs.levels.with_next_level.Goals as goal
use Rattle.dg_reduce.proofs.levels.with_next_level.Goals.{then-reached-v, else-reached-v}

pub loop-v-preserved : goal.loop-v-preserved
loop-v-preserved c = elim c.if-reached-v.branch [
  | then-reached-v w ↦ rw w.reached-is (λ q vertex before.
      reached-passed c.args.graph.now q c.args.level c.loop-v.v (slice_index c.loop-v.reached) _
      c.size-v-end.ensures.graph.multigraph vertex (omega arith) c.requires (c.loop-v.invariant q vertex before)
      (omega arith) w.with_neighbour_levels-reached.ensures)
  | else-reached-v w ↦ rw w.reached-is (λ q vertex before.
      reached-other c.args.graph.now q c.args.level c.loop-v.v (slice_index c.loop-v.reached)
      (c.loop-v.invariant q vertex before) (omega arith))
]

pub returns : goal.returns
returns c = λ q vertex before.
    reached-next c.args.graph.now q c.args.level c.loop-v.v (slice_index c.loop-v.reached)
    (c.loop-v.invariant q vertex before) (omega arith)
