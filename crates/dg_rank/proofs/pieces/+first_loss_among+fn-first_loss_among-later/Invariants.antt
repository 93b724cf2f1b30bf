use Rattle.dg_rank.proofs.Common.{◌+◌, ◌-◌, ◌*◌}
use Rattle.dg_rank.proofs.pieces.+first_loss_among+fn-first_loss_among-later.Given as goal

abbrev pub decreases-first_loss_among : goal.decreases-first_loss_among
decreases-first_loss_among g l = 2 * (l.search.now.workers - l.piece)

abbrev pub decreases-later : goal.decreases-later
decreases-later g l = 2 * (l.search.now.workers - l.next) + 1
