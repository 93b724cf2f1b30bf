use Rattle.dg_rank.proofs.Common.{true, at}
use Rattle.dg_rank.proofs.AnyLoss.{told_from}
use Rattle.dg_rank.proofs.Elsewhere.{told_by}
use Rattle.dg_rank.proofs.LossBoxes.{box_told, class_small}
use Rattle.dg_rank.proofs.losses.find_loss_from.Goals as goal

pub find_box_loss-requires-clause-small : goal.find_box_loss-requires-clause-small
find_box_loss-requires-clause-small c =
    class_small c.args.graph.now (at c.args.left.now) c.find_loss_soon.new.left c.size.ensures.graph.multigraph c.requires.small
    c.find_loss_soon.ensures.class

pub returns-clause-class : goal.returns-clause-class
returns-clause-class c =
    told_by true c.args.graph.now (at c.args.left.now) (at c.find_loss_soon.new.left) c.find_box_loss.new.left
    c.find_loss_soon.ensures.class.led c.find_box_loss.ensures.class

pub returns-clause-told : goal.returns-clause-told
returns-clause-told c =
    let g = c.args.graph.now in
    let room = c.room_from-room.result in
    let found = c.in-Ok-find_box_loss.found in
    told_from found g (at c.args.left.now) c.args.place room c.args.dollars c.requires.place c.room_from-room.ensures.before
    (rw c.size.ensures.size at c.room_from-room.ensures.past)
    (box_told found g (at c.args.left.now) (at c.find_loss_soon.new.left) room c.args.dollars
    c.find_loss_soon.ensures.class.led c.in-Ok-find_box_loss.ensures.told)
