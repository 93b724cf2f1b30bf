use Rattle.dg_log.proofs.ReceiptSets.{stands_seen}
use Rattle.dg_log.proofs.prefix.Prefix.holds.Goals as goal

pub returns : goal.returns
returns g c =
    stands_seen _ _ _ c.receipt_set.view_is c.self.view_is c.agree.ensures c.receipt_set.invariant.0 c.self.invariant.1
    c.requires
