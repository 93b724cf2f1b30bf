use Rattle.dg_rank.proofs.beginnings.+first_loss_from.Given as goal

abbrev pub decreases-first_loss_from : goal.decreases-first_loss_from
decreases-first_loss_from l = l.dollars
