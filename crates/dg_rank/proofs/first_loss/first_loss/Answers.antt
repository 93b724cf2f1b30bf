use Rattle.dg_rank.proofs.Common.{at, IsNotBefore}
use Rattle.dg_rank.proofs.Starts.{from_trial, start_lost, told_same}
use Rattle.dg_rank.proofs.first_loss.first_loss.Goals as goal

pub first_loss_on-requires-clause-start : goal.first_loss_on-requires-clause-start
first_loss_on-requires-clause-start c = from_trial c.args.graph.now.size c.args.k c.args.start c.requires.start

pub returns-in-Some : goal.returns-in-Some
returns-in-Some c =
    told_same c.args.graph.now (at c.args.chips.now) (at c.in-Some.left) c.args.k 0
    (IsNotBefore c.args.graph.now.size c.args.start) c.first_loss_on.result c.in-Some.ensures.form.led
    c.first_loss_on.ensures

pub returns-in-None : goal.returns-in-None
returns-in-None c =
    start_lost c.args.graph.now (at c.args.chips.now) c.args.k 0 c.args.start c.requires.start.places
    (from_trial c.args.graph.now.size c.args.k c.args.start c.requires.start) c.in-None.ensures
