use Rattle.dg_rank.proofs.PieceLosses.{found_after, loss_before}
use Rattle.dg_rank.proofs.Common.{at}
use Rattle.dg_rank.proofs.pieces.earlier_loss.Goals as goal

pub returns-in-Some : goal.returns-in-Some
returns-in-Some c s i m j start end here later =
    loss_before s.graph (at s.chips) s.k i m j c.in-Some.trial end (rw c.in-Some.is at here)

pub returns-in-None : goal.returns-in-None
returns-in-None c s i m j start end here later =
    found_after s.graph (at s.chips) s.k i m j c.args.later start (rw c.in-None.is at here) later
