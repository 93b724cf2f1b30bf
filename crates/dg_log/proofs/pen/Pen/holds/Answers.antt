use Rattle.dg_log.proofs.Common.{ap, Written}
use Rattle.dg_log.proofs.ReceiptSets.{stands_seen}
use Rattle.dg_log.proofs.pen.Pen.holds.Goals as goal

pub returns : goal.returns
returns g c =
    stands_seen _ _ _ c.receipt_set.view_is (ap (λ (w : Written). w.entries) c.self.view_is) c.agree.ensures
    c.receipt_set.invariant.0 c.self.invariant.3 c.requires
