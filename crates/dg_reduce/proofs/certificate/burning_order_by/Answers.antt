use Rattle.dg_reduce.proofs.Common.{rules, at, CertifiesBurning, CoversOff}
use Rattle.dg_reduce.proofs.Burnings.{whole_order, whole_reduced}
use Rattle.dg_reduce.proofs.certificate.burning_order_by.Goals as goal

pub returns-then-certifies : goal.returns-then-certifies
returns-then-certifies c =
    let whole : CertifiesBurning c.args.graph.now c.args.q c.in-Some.burning = search rules in
    let same : CoversOff c.args.graph.now.size c.args.q (at c.args.chips.now) c.in-Some.burning.held =
    rw c.requires.size at c.if-certifies.ensures in
    (whole_reduced _ _ _ _ same whole, whole_order _ _ _ _ same whole)
