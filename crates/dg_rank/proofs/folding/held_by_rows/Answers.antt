use Rattle.dg_rank.proofs.Common.{◌*◌, ◌≤ℤ◌, arith, ints, ◌∙◌, pos, degree, sum_below-at_most, at}
use Rattle.dg_rank.proofs.folding.held_by_rows.Goals as goal

pub returns : goal.returns
returns c =
    let g = c.args.graph.now in
    let held = c.loop-v.invariant in
    record {
      size = c.of.ensures.size ∙ held.size;
      effective = λ v below. rw (c.of.ensures.amounts v (omega (arith, held.size))) (held.some v);
      small =
          let total : degree g.size (at c.of.result) ≤ℤ pos (g.size * 1999000) =
          sum_below-at_most g.size 1999000 (at c.of.result)
          (λ v below. rw (c.of.ensures.amounts v (omega (arith, held.size))) (held.few v)) in
          omega (arith, ints, c.size-v-end.ensures.graph.few);
      unfolded = λ v below left.
          c.of.ensures.amounts v (omega (arith, held.size))
          ∙ held.unfolded v (omega (arith, c.loop-v-test.false, c.size-v-end.ensures.size)) left;
      folded = λ v below out. c.of.ensures.amounts v (omega (arith, held.size)) ∙ held.folded v out;
    }
