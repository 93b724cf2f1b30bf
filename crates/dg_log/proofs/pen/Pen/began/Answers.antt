use Rattle.dg_log.proofs.Common.{ap, Written}
use Rattle.dg_log.proofs.ReceiptSets.{began_seen}
use Rattle.dg_log.proofs.pen.Pen.began.Goals as goal

pub returns : goal.returns
returns g c =
    began_seen _ _ _ c.prefix.view_is (ap (λ (w : Written). w.entries) c.self.view_is) c.agree.ensures c.prefix.invariant.1
    c.self.invariant.3 c.requires
