use Rattle.dg_theory.proofs.RankLaws.{equivalent-rank, rank_below, rank_zero, rich_rank, poor_rank}
use Rattle.dg_theory.proofs.LossLaws.{equivalent-loss, loss_once, loss_bounds_rank}
use Rattle.dg_theory.proofs.laws.laws_of_rank.Goals as goal

pub returns-clause-rank : goal.returns-clause-rank
returns-clause-rank c = equivalent-rank

pub returns-clause-below : goal.returns-clause-below
returns-clause-below c = rank_below

pub returns-clause-zero : goal.returns-clause-zero
returns-clause-zero c = rank_zero

pub returns-clause-rich : goal.returns-clause-rich
returns-clause-rich c = rich_rank

pub returns-clause-poor : goal.returns-clause-poor
returns-clause-poor c = poor_rank

pub returns-clause-loss : goal.returns-clause-loss
returns-clause-loss c = loss_bounds_rank

pub returns-clause-first_loss : goal.returns-clause-first_loss
returns-clause-first_loss c = equivalent-loss

pub returns-clause-loss_once : goal.returns-clause-loss_once
returns-clause-loss_once c = loss_once
