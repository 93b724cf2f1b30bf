use Rattle.dg_rank.proofs.Common.{at}
use Rattle.dg_theory.proofs.Equivalence.{equivalent-sym}
use Rattle.dg_rank.proofs.FixedBeginnings.{first_skip}
use Rattle.dg_rank.proofs.LastLosses.{first_back, last_back}
use Rattle.dg_rank.proofs.LossBoxes.{class_small}
use Rattle.dg_rank.proofs.beginnings.find_first_from.Goals as goal

pub first_loss_from-requires-clause-small : goal.first_loss_from-requires-clause-small
first_loss_from-requires-clause-small c =
    class_small c.args.graph.now (at c.args.left.now) c.find_last_loss.new.left c.size-size.ensures.graph.multigraph
    c.requires.small c.find_last_loss.ensures.class

pub first_loss_from-requires-clause-known : goal.first_loss_from-requires-clause-known
first_loss_from-requires-clause-known c =
    last_back c.args.graph.now (at c.find_last_loss.new.left) (at c.args.left.now) c.args.dollars c.in_ok-last.last
    c.in_ok-last.loss (equivalent-sym c.args.graph.now (at c.args.left.now) (at c.find_last_loss.new.left)
    c.find_last_loss.ensures.class.led) c.in_ok-last.ensures.told.1

pub returns : goal.returns
returns c =
    first_back c.args.graph.now (at c.args.left.now) (at c.find_last_loss.new.left) c.args.dollars c.args.place
    c.first_loss_from.result c.find_last_loss.ensures.class.led
    (first_skip c.args.graph.now (at c.find_last_loss.new.left) c.args.dollars c.args.place c.in_ok-last.last
    c.first_loss_from.result c.in_ok-last.ensures.told.0 c.first_loss_from.ensures)
