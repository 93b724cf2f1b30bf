use Rattle.dg_table.proofs.Common.{refl}
use Rattle.dg_table.proofs.Totals.{totals}
use Rattle.dg_table.proofs.held.Held.audit.Goals as goal

pub returns-clause-totals : goal.returns-clause-totals
returns-clause-totals g c = λ xs all.
    totals _ xs c.self.invariant.0 (rw (← c.self.view_is) at all) c.entries.ensures.entries c.gifts.ensures c.graph.ensures
    c.position.ensures.amounts refl
