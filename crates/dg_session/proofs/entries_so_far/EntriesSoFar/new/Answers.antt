use Rattle.dg_session.proofs.Coming.{history_none}
use Rattle.dg_session.proofs.entries_so_far.EntriesSoFar.new.Goals as goal

pub invariant_of-result : goal.invariant_of-result
invariant_of-result g c =
    rw c.new.ensures (history_none g.N.Name.table)
