use Rattle.dg_rank.proofs.Common.{arith, pos, slice_index_or}
use Rattle.dg_rank.proofs.folding.join.Goals as goal

pub returns : goal.returns
returns c t b few part = (
  slice_index_or c.in_ok-rounds.rounds b (pos 0),
  c.in_ok-rounds.ensures b (omega arith),
  c.loop-t.invariant.row t b (omega (arith, c.loop-t-test.false)) part,
)
