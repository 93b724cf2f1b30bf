use Rattle.dg_table.proofs.Common.{arith}
use Rattle.dg_table.proofs.Totals.{history_of}
use Rattle.dg_table.proofs.held.Held.missing.Goals as goal

pub returns-in-Some-clause-history : goal.returns-in-Some-clause-history
returns-in-Some-clause-history g c =
    rw (← c.self.view_is) (history_of c.self.invariant.0 (omega (arith, c.len-entries.ensures)))

pub returns-then-admits_all-clause-history : goal.returns-then-admits_all-clause-history
returns-then-admits_all-clause-history g c =
    rw (← c.self.view_is) (history_of c.self.invariant.0 (omega (arith, c.len-entries.ensures)))

pub returns-else-admits_all-clause-history : goal.returns-else-admits_all-clause-history
returns-else-admits_all-clause-history g c =
    rw (← c.self.view_is) (history_of c.self.invariant.0 (omega (arith, c.len-entries.ensures)))
