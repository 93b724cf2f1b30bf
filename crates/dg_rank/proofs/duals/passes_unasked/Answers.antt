use Rattle.dg_rank.proofs.Common.{◌≡◌, ◌<◌, ◌≤◌, arith, ints, pos, ◌-ℤ◌, genus, degree, rich_rank, at}
use Rattle.dg_rank.proofs.DualTests.{decided, dual_passes, fails_past_half}
use Rattle.dg_rank.proofs.SmallDegrees.{genus_small}
use Rattle.dg_rank.proofs.TestDegrees.{lesser_few}
use Rattle.dg_rank.proofs.duals.passes_unasked.Goals as goal
use Rattle.dg_rank.proofs.duals.passes_unasked.Goals.{After-dual_test_degree-other}

pub returns-then-rest-from : goal.returns-then-rest-from
returns-then-rest-from c =
    let g = c.args.graph.now in
    let rest : c.remaining_degree-rest.result ≡ degree g.size (at c.args.divisor.now) -ℤ pos c.args.k =
    rw c.requires.size at c.remaining_degree-rest.ensures in
    rich_rank g (at c.args.divisor.now) c.args.k c.size-size.ensures.graph.multigraph (omega arith) (omega (arith, ints))

pub returns-then-rest-from-2 : goal.returns-then-rest-from-2
returns-then-rest-from-2 c =
    let g = c.args.graph.now in
    let rest : c.remaining_degree-rest.result ≡ degree g.size (at c.args.divisor.now) -ℤ pos c.args.k =
    rw c.requires.size at c.remaining_degree-rest.ensures in
    fails_past_half g (at c.args.divisor.now) c.args.k c.size-size.ensures.graph.multigraph c.requires.some
    (omega (arith, ints)) (omega (arith, ints))

few : (c : After-dual_test_degree-other) → (c.args.k ≤ c.dual_test_degree-other.result → c.args.k ≤ 1000) ×
    (c.dual_test_degree-other.result < c.args.k → c.dual_test_degree-other.result ≤ 1000)
few c =
    let g = c.args.graph.now in
    let rest : c.remaining_degree-rest.result ≡ degree g.size (at c.args.divisor.now) -ℤ pos c.args.k =
    rw c.requires.size at c.remaining_degree-rest.ensures in
    lesser_few (degree g.size (at c.args.divisor.now)) (genus g) c.args.k c.dual_test_degree-other.result
    (genus_small g c.size-size.ensures.graph) (omega (arith, ints, rest)) c.dual_test_degree-other.ensures

pub all_trials_win-requires-clause-few : goal.all_trials_win-requires-clause-few
all_trials_win-requires-clause-few c =
    (few (goal.at.all_trials_win-requires-clause-few c).After-dual_test_degree-other).1 (omega (arith, c.if-k-other.false))

pub returns-then-k-other : goal.returns-then-k-other
returns-then-k-other c =
    (few (goal.at.returns-then-k-other c).After-dual_test_degree-other).0 (omega (arith, c.if-k-other.true))

pub returns : goal.returns
returns c =
    let g = c.args.graph.now in
    decided c.all_trials_win.result
    (dual_passes g (at c.args.divisor.now) (at c.dual_amounts.result) c.args.k c.dual_test_degree-other.result
    c.size-size.ensures.graph.multigraph (omega arith) c.dual_test_degree-other.ensures c.dual_amounts.ensures.amounts)
    c.all_trials_win.ensures
