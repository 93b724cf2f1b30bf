use Rattle.dg_table.proofs.Common.{arith}
use Rattle.dg_table.proofs.Totals.{history_of}
use Rattle.dg_table.proofs.held.Held.meet.Goals as goal

pub meet-requires : goal.meet-requires
meet-requires g c =
    rw c.prefix.ensures (history_of c.self.invariant.0
    (omega (arith, c.len-len.ensures.length, c.len-len.ensures.room)))
