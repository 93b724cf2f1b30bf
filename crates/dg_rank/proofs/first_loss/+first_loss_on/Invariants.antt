use Rattle.dg_rank.proofs.Common.{◌-◌}
use Rattle.dg_rank.proofs.first_loss.+first_loss_on.Given as goal

abbrev pub decreases-first_loss_on : goal.decreases-first_loss_on
decreases-first_loss_on l = l.graph.now.size - l.place
