use Rattle.dg_rank.proofs.numbers.+least_loss.Given as goal

abbrev pub decreases-least_loss : goal.decreases-least_loss
decreases-least_loss l = l.most
