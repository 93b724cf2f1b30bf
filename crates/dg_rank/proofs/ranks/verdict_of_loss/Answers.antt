use Rattle.dg_rank.proofs.Common.{refl, equivalent-loss, equivalent-rank, at}
use Rattle.dg_rank.proofs.AnyLoss.{rank_from}
use Rattle.dg_rank.proofs.FirstLosses.{found_loss}
use Rattle.dg_rank.proofs.ranks.verdict_of_loss.Goals as goal

pub returns-in-Some : goal.returns-in-Some
returns-in-Some c g D x same found =
    let (size, loss) = found_loss g x c.args.k c.in-Some.trial c.to_divisor.result (rw c.in-Some.is at found)
    c.to_divisor.ensures in
    (refl, size, (equivalent-loss g D x c.args.k (at c.to_divisor.result) same).1 loss)

pub returns-in-None : goal.returns-in-None
returns-in-None c g D x same found =
    (refl, (equivalent-rank g D x c.args.k same).1 (rank_from g x c.args.k (rw c.in-None.is at found)))
