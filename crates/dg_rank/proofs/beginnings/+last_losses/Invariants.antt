use Rattle.dg_rank.proofs.Common.{◌+◌, ◌-◌, ◌*◌}
use Rattle.dg_rank.proofs.beginnings.+last_losses.Given as goal

abbrev pub decreases-find_last_loss : goal.decreases-find_last_loss
decreases-find_last_loss l = (l.graph.now.size - l.place) * 2 + 1

abbrev pub decreases-last_loss_from : goal.decreases-last_loss_from
decreases-last_loss_from l = (l.graph.now.size - l.place) * 2
