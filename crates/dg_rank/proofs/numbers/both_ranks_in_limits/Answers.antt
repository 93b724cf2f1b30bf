use Rattle.dg_rank.proofs.Common.{arith, inr, ints, minus, canonical, not_rich, at}
use Rattle.dg_rank.proofs.RankByTests.{fails_low, rank_before, rank_of_dual_before, in_limits, needs_too_many}
use Rattle.dg_rank.proofs.numbers.both_ranks_in_limits.Goals as goal

pub dual_test_degree-dual_fails-requires-clause-low : goal.dual_test_degree-dual_fails-requires-clause-low
dual_test_degree-dual_fails-requires-clause-low c =
    fails_low c.args.graph.now (at c.args.divisor.now) c.in_ok-fails.fails c.size-size.ensures.graph.multigraph
    (omega arith) c.in_ok-fails.ensures.0

pub dual_test_degree-dual_fails-requires-clause-poor : goal.dual_test_degree-dual_fails-requires-clause-poor
dual_test_degree-dual_fails-requires-clause-poor c =
    not_rich c.args.graph.now (at c.args.divisor.now) c.in_ok-fails.fails c.size-size.ensures.graph.multigraph
    (omega arith) c.in_ok-fails.ensures.0.fails

pub returns-in_err-trials : goal.returns-in_err-trials
returns-in_err-trials c =
    let g = c.args.graph.now in
    let D = at c.args.divisor.now in
    rw c.from_residual-in_err-trials.ensures
    (inr (needs_too_many g (minus (canonical g) D) c.dual_test_degree-dual_fails.result
    (rank_of_dual_before g D c.in_ok-fails.fails c.dual_test_degree-dual_fails.result
    c.size-size.ensures.graph.multigraph
    (omega arith) c.in_ok-fails.ensures.0 c.dual_test_degree-dual_fails.ensures)
    (rw c.size-size.ensures.size at c.in_err-trials.ensures)))

pub returns : goal.returns
returns c =
    let g = c.args.graph.now in
    let D = at c.args.divisor.now in (
      in_limits g D c.in_ok-fails.fails _ (rank_before g D c.in_ok-fails.fails c.in_ok-fails.ensures.0)
          (omega (arith, ints, c.from.ensures)) c.in_ok-fails.ensures.1,
      in_limits g (minus (canonical g) D) c.dual_test_degree-dual_fails.result _
          (rank_of_dual_before g D c.in_ok-fails.fails c.dual_test_degree-dual_fails.result
          c.size-size.ensures.graph.multigraph
          (omega arith) c.in_ok-fails.ensures.0 c.dual_test_degree-dual_fails.ensures)
          (omega (arith, ints, c.from-2.ensures))
          (c.in_ok-trials.field-0, rw c.size-size.ensures.size at c.in_ok-trials.ensures),
    )
