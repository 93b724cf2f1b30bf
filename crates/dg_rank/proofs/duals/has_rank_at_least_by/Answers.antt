use Rattle.dg_rank.proofs.Common.{◌<◌, arith, ints, equivalent-refl, equivalent-rank, at}
use Rattle.dg_rank.proofs.DualTests.{decided}
use Rattle.dg_rank.proofs.duals.has_rank_at_least_by.Goals as goal

pub all_trials_win-requires-clause-range : goal.all_trials_win-requires-clause-range
all_trials_win-requires-clause-range c v inside =
    let below : v < c.args.divisor.now.size = omega (arith, c.requires.size) in
    omega (arith, ints, c.of.ensures.amounts v below, c.size-amounts.ensures.divisor.within v below)

pub returns-in-None : goal.returns-in-None
returns-in-None c =
    let g = c.args.graph.now in
    decided c.all_trials_win.result
    (equivalent-rank g (at c.of.result) (at c.args.divisor.now) c.args.k
    (equivalent-refl g (at c.of.result) (at c.args.divisor.now)
    (λ v inside. c.of.ensures.amounts v (omega (arith, c.requires.size)))))
    c.all_trials_win.ensures
