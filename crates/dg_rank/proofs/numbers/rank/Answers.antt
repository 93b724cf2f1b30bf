use Rattle.dg_rank.proofs.Common.{arith, ints, at}
use Rattle.dg_rank.proofs.RankByTests.{rank_before, in_limits}
use Rattle.dg_rank.proofs.numbers.rank.Goals as goal

pub returns : goal.returns
returns c =
    let g = c.args.graph.now in
    let D = at c.args.divisor.now in
    in_limits g D c.in_ok-fails.fails _ (rank_before g D c.in_ok-fails.fails c.in_ok-fails.ensures.0)
    (omega (arith, ints, c.from.ensures)) c.in_ok-fails.ensures.1
