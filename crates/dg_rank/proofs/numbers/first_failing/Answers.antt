use Rattle.dg_rank.proofs.Common.{◌∙◌, arith, at, IsTrial}
use Rattle.dg_rank.proofs.FixedBeginnings.{lost_at_last}
use Rattle.dg_rank.proofs.LeastLosses.{trial_at_last, told_on}
use Rattle.dg_rank.proofs.numbers.first_failing.Goals as goal
use Rattle.dg_rank.proofs.numbers.first_failing.Goals.{After-all_at_last-nothing}

nothing : (c : After-all_at_last-nothing) → IsTrial c.args.graph.now.size 0 c.all_at_last-nothing.result
nothing c =
    trial_at_last c.args.graph.now.size 0 c.all_at_last-nothing.result c.requires.some
    (c.all_at_last-nothing.ensures.places ∙ c.size.ensures.size)
    (rw c.size.ensures.size at c.all_at_last-nothing.ensures.held)
    (rw c.size.ensures.size at c.all_at_last-nothing.ensures.empty)

pub effective_with-requires-clause-few : goal.effective_with-requires-clause-few
effective_with-requires-clause-few c =
    omega (arith, (nothing (goal.at.effective_with-requires-clause-few c).After-all_at_last-nothing).amount)

pub returns-in-Some : goal.returns-in-Some
returns-in-Some c =
    told_on c.least_loss.result c.args.graph.now (at c.args.amounts.now) (at c.in-Some.left) c.args.most
    c.in-Some.ensures.form.led c.least_loss.ensures

pub returns-in-None : goal.returns-in-None
returns-in-None c = (
  omega arith,
  record {
    passed = λ j low. absurd (omega arith);
    fails = lost_at_last c.args.graph.now (at c.args.amounts.now) 0 c.all_at_last-nothing.result
        (nothing (goal.at.returns-in-None c).After-all_at_last-nothing) c.in-None.ensures;
  },
)
