use Rattle.dg_table.proofs.Common.{◌≡◌, take}
use Rattle.dg_table.proofs.audit.Audit.history.Given as goal

abbrev pub invariant-loop-number : goal.invariant-loop-number
invariant-loop-number g l = l.entries.items ≡ take l.number l.self.pen.entries
