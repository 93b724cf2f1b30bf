-- The ends that came early among those that were looked at.
use Rattle.dg_run.proofs.Common.{◌≡◌, take, early}
use Rattle.dg_run.proofs.parties.early_ends.Given as goal

abbrev pub invariant-ends : goal.invariant-ends
invariant-ends l = l.all.items ≡ early 1 (take l.place l.ends)
