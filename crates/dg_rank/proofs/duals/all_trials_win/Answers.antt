use Rattle.dg_rank.proofs.Common.{◌∙◌, arith, at, IsTrial}
use Rattle.dg_rank.proofs.FixedBeginnings.{all_told, lost_at_last}
use Rattle.dg_rank.proofs.LeastLosses.{trial_at_last}
use Rattle.dg_rank.proofs.duals.all_trials_win.Goals as goal
use Rattle.dg_rank.proofs.duals.all_trials_win.Goals.{After-all_at_last-first}

first : (c : After-all_at_last-first) → IsTrial c.args.graph.now.size c.args.k c.all_at_last-first.result
first c =
    trial_at_last c.args.graph.now.size c.args.k c.all_at_last-first.result c.requires.some
    (c.all_at_last-first.ensures.places ∙ c.size.ensures.size)
    (rw c.size.ensures.size at c.all_at_last-first.ensures.held)
    (rw c.size.ensures.size at c.all_at_last-first.ensures.empty)

pub effective_with-requires-clause-few : goal.effective_with-requires-clause-few
effective_with-requires-clause-few c =
    omega (arith, (first (goal.at.effective_with-requires-clause-few c).After-all_at_last-first).amount, c.requires.few)

pub returns-in-Some : goal.returns-in-Some
returns-in-Some c =
    all_told c.is_none.result c.find_loss_from.result c.args.graph.now (at c.args.amounts.now) (at c.in-Some.left) c.args.k
    c.requires.some c.in-Some.ensures.form.led c.is_none.ensures c.find_loss_from.ensures.told

pub returns-in-None : goal.returns-in-None
returns-in-None c =
    lost_at_last c.args.graph.now (at c.args.amounts.now) c.args.k c.all_at_last-first.result
    (first (goal.at.returns-in-None c).After-all_at_last-first) c.in-None.ensures
