use Rattle.dg_rank.proofs.Common.{◌≡◌, ◌-◌, ◌<◌, ◌∙◌, arith, ints, slice_index, MatchOption, equivalent-refl, at, amounts_of_trial, IsTrialFrom, TrialsWinFrom, IsFirstLossFrom}
use Rattle.dg_rank.proofs.FirstFrom.{at_last}
use Rattle.dg_rank.proofs.FirstLosses.{found_trial}
use Rattle.dg_rank.proofs.Starts.{all_told, on_all, trial_from}
use Rattle.dg_rank.proofs.ranks.rank_by_trials.Goals as goal
use Rattle.dg_rank.proofs.ranks.rank_by_trials.Goals.{After-all_at_last-first, After-first_loss-loss}

pub passes_unasked-requires : goal.passes_unasked-requires
passes_unasked-requires c =
    let (count, within) = c.requires.limits in
    record { size = c.requires.size; some = within.some }

held : (c : After-all_at_last-first) → slice_index c.all_at_last-first.result (c.args.graph.now.size - 1) ≡ c.args.k
held c = rw c.size-size.ensures.size at c.all_at_last-first.ensures.held

first : (c : After-all_at_last-first) →
    IsTrialFrom c.args.graph.now.size c.args.k 0 (amounts_of_trial c.all_at_last-first.result)
first c =
    at_last c.args.graph.now.size c.args.k 0 c.all_at_last-first.result c.size-size.ensures.graph.some (held c)
    (rw c.size-size.ensures.size at c.all_at_last-first.ensures.empty)

pub first_loss-loss-requires-clause-range : goal.first_loss-loss-requires-clause-range
first_loss-loss-requires-clause-range c v inside =
    let below : v < c.args.divisor.now.size = omega (arith, c.requires.size) in
    omega (arith, ints, c.of.ensures.amounts v below, c.size-amounts.ensures.divisor.within v below)

pub first_loss-loss-requires-clause-few : goal.first_loss-loss-requires-clause-few
first_loss-loss-requires-clause-few c =
    let (count, within) = c.requires.limits in
    within.small

pub first_loss-loss-requires-clause-start : goal.first_loss-loss-requires-clause-start
first_loss-loss-requires-clause-start c =
    trial_from c.args.graph.now.size c.args.k 0 c.all_at_last-first.result
    (c.all_at_last-first.ensures.places ∙ c.size-size.ensures.size)
    (first (goal.at.first_loss-loss-requires-clause-start c).After-all_at_last-first)

found : (c : After-first_loss-loss) → MatchOption c.first_loss-loss.result
    (TrialsWinFrom c.args.graph.now (at c.of.result) c.args.k 0) (IsFirstLossFrom c.args.graph.now (at c.of.result) c.args.k 0)
found c =
    let d = (goal.at.After-first_loss-loss c).After-all_at_last-first in
    let g = c.args.graph.now in
    let S = c.all_at_last-first.result in
    all_told g (at c.of.result) c.args.k 0 S c.first_loss-loss.result
    (λ F from. on_all g.size c.args.k 0 S F (held d) (first d) from) c.first_loss-loss.ensures

pub verdict_of_loss-requires : goal.verdict_of_loss-requires
verdict_of_loss-requires c =
    let (count, within) = c.requires.limits in
    found_trial c.args.graph.now (at c.of.result) c.args.k c.first_loss-loss.result within.small
    (found (goal.at.verdict_of_loss-requires c).After-first_loss-loss)

pub returns : goal.returns
returns c =
    c.verdict_of_loss.ensures c.args.graph.now (at c.args.divisor.now) (at c.of.result)
    (equivalent-refl c.args.graph.now (at c.args.divisor.now) (at c.of.result)
    (λ v inside. omega (arith, ints, c.of.ensures.amounts v (omega (arith, c.requires.size)))))
    (found (goal.at.returns c).After-first_loss-loss)
