use Rattle.dg_reduce.proofs.Common.{◌≡◌, ◌+◌, ◌≤◌, ◌^◌, arith, subst, w128, unsigned_abs, to_z, of_z, ints, pos, in_set, at, times_held, IsTraceAfter, IsLargestDebt}
use Rattle.std.specs.Prelude.{slice_index}
use Rattle.dg_reduce.proofs.LevelSteps.{chips_small, script_small, debt_small, cleared_free, cleared_paid}
use Rattle.dg_reduce.proofs.clearing.clear_level.Goals as goal
use Rattle.dg_reduce.proofs.clearing.clear_level.Goals.{After-largest_debt-debt}

pub largest_debt-debt-requires : goal.largest_debt-debt-requires
largest_debt-debt-requires c = λ v inside.
    chips_small c.args.graph.now (slice_index c.args.levels.now) (c.args.level + 1) c.args.walk.now c.requires.cleared v
    (omega (arith, c.requires.cleared.tied.chips_size))

largest : (c : After-largest_debt-debt) →
    IsLargestDebt c.args.graph.now.size (slice_index c.args.levels.now) c.args.level
    (at c.args.walk.now.chips) c.largest_debt-debt.result
largest c = rw (c.requires.cleared.tied.chips_size) at (c.largest_debt-debt.ensures)

few : (c : After-largest_debt-debt) → unsigned_abs c.largest_debt-debt.result ≤ 2 ^ 120
few c =
    debt_small c.args.graph.now (slice_index c.args.levels.now) c.args.level c.args.walk.now c.largest_debt-debt.result
    c.requires.cleared (largest c)

held : (c : After-largest_debt-debt) → to_z w128 (of_z w128 c.largest_debt-debt.result)
    ≡ c.largest_debt-debt.result
held c = times_held c.largest_debt-debt.result (few c)

pub returns-then-debt-eq0-clause-cleared : goal.returns-then-debt-eq0-clause-cleared
returns-then-debt-eq0-clause-cleared c =
    let none : c.largest_debt-debt.result ≡ pos 0 =
    omega (
      arith,
      ints,
      held (goal.at.returns-then-debt-eq0-clause-cleared c).After-largest_debt-debt,
      c.if-debt-eq0.true,
    ) in
    cleared_free c.args.graph.now
    (slice_index c.args.levels.now) c.args.level c.args.walk.now c.requires.some c.requires.few
    c.requires.cleared (rw none at (largest (goal.at.returns-then-debt-eq0-clause-cleared c).After-largest_debt-debt))

pub fired-requires-clause-chips : goal.fired-requires-clause-chips
fired-requires-clause-chips c =
    chips_small c.args.graph.now (slice_index c.args.levels.now) (c.args.level + 1) c.args.walk.now c.requires.cleared

pub fired-requires-clause-script : goal.fired-requires-clause-script
fired-requires-clause-script c =
    script_small c.args.graph.now (slice_index c.args.levels.now) (c.args.level + 1) c.args.walk.now c.requires.cleared

pub fired-requires-clause-times : goal.fired-requires-clause-times
fired-requires-clause-times c =
    let small : unsigned_abs (to_z w128 (of_z w128 c.largest_debt-debt.result)) ≤ 2 ^ 120 =
    rw (held (goal.at.fired-requires-clause-times c).After-largest_debt-debt)
    (few (goal.at.fired-requires-clause-times c).After-largest_debt-debt) in
    omega (arith, small)

pub returns-clause-cleared : goal.returns-clause-cleared
returns-clause-cleared c =
    cleared_paid c.args.graph.now c.requires.distance.0 (slice_index c.args.levels.now) c.args.level
    (in_set c.nearer_set-set.result)
    c.largest_debt-debt.result c.args.walk.now c.fired.result c.size.ensures.graph c.requires.distance.1 c.requires.some
    c.requires.few c.requires.cleared (largest (goal.at.returns-clause-cleared c).After-largest_debt-debt)
    (subst (λ k. IsTraceAfter c.args.graph.now (in_set c.nearer_set-set.result) k c.args.walk.now c.fired.result)
    (held (goal.at.returns-clause-cleared c).After-largest_debt-debt) c.fired.ensures)
    (λ w below. c.nearer_set-set.ensures w (omega (arith, c.size.ensures.size)))
