use Rattle.dg_rank.proofs.Common.{◌≡◌, true, replicate, at}
use Rattle.dg_rank.proofs.LossBoxes.{plain_told}
use Rattle.dg_rank.proofs.boxes.find_box_loss.Goals as goal

pub returns-clause-told : goal.returns-clause-told
returns-clause-told c =
    plain_told c.find_unpaid.result c.args.graph.now (at c.args.left.now) (replicate 16 0) c.args.room.now c.args.dollars
    (λ _. c.args.stops ≡ true) c.find_unpaid.ensures.told
