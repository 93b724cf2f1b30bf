use Rattle.dg_rank.proofs.Common.{◌≡◌, ◌+◌, ⊎_elim, at, FailsFirstAt, IsPastLimits}
use Rattle.dg_rank.proofs.LeastLosses.{side_fails, side_needs, side_rich}
use Rattle.dg_rank.proofs.RankByTests.{rank_before, needs_too_many}
use Rattle.dg_rank.proofs.numbers.first_failing_in_limits.Goals as goal
use Rattle.dg_rank.proofs.numbers.first_failing_in_limits.Goals.{In_ok-fails}

pub returns-in_err-most : goal.returns-in_err-most
returns-in_err-most c =
    rw c.from_residual.ensures (side_rich c.args.graph.now (at c.args.divisor.now) (at c.lesser_side-amounts.result.amounts)
    c.lesser_side-amounts.result.less c.lesser_side-amounts.ensures.side
    (rw c.size-size.ensures.size at c.in_err-most.ensures))

pub returns-in_err-fails : goal.returns-in_err-fails
returns-in_err-fails c =
    let g = c.args.graph.now in
    let side = c.lesser_side-amounts.ensures.side in
    let less = c.lesser_side-amounts.result.less in
    let most = c.in_ok-most.most in
    rw c.from_residual-in_err-fails.ensures (⊎_elim
    (λ (all : most ≡ c.failing_degree.result).
    absurd (side.fails most (rw all c.failing_degree.ensures.genus) c.in_err-fails.ensures))
    (λ (past : IsPastLimits c.size-size.result (most + less + 1)).
    side_needs g (at c.args.divisor.now) (at c.lesser_side-amounts.result.amounts) less side most c.in_err-fails.ensures
    (rw c.size-size.ensures.size at past))
    c.in_ok-most.ensures.1)

first : (c : In_ok-fails) →
    FailsFirstAt c.args.graph.now (at c.args.divisor.now) (c.in_ok-fails.field-0 + c.lesser_side-amounts.result.less)
first c =
    side_fails c.args.graph.now (at c.args.divisor.now) (at c.lesser_side-amounts.result.amounts)
    c.lesser_side-amounts.result.less c.lesser_side-amounts.ensures.side c.in_ok-fails.field-0 c.in_ok-fails.ensures.1

pub returns-in_err-trials : goal.returns-in_err-trials
returns-in_err-trials c =
    let g = c.args.graph.now in
    let D = at c.args.divisor.now in
    let fails = c.in_ok-fails.field-0 + c.lesser_side-amounts.result.less in
    rw c.from_residual-in_err-trials.ensures (needs_too_many g D fails
    (rank_before g D fails (first (goal.at.returns-in_err-trials c).In_ok-fails))
    (rw c.size-size.ensures.size at c.in_err-trials.ensures))

pub returns : goal.returns
returns c = (
  first (goal.at.returns c).In_ok-fails,
  (c.in_ok-trials.field-0, rw c.size-size.ensures.size at c.in_ok-trials.ensures),
)
