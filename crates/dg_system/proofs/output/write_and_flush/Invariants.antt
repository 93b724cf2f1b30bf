-- What is behind `at` was taken.
use Rattle.dg_system.proofs.Common.{length, ◌-◌, ◌≤◌, take, Appends}
use Rattle.dg_system.proofs.output.write_and_flush.Given as goal

abbrev pub invariant-writes : goal.invariant-writes
invariant-writes g l = (l.at ≤ length l.text)
    × Appends (g.O.Write.contents l.fn.writer) (g.O.Write.contents l.writer) (take l.at l.text)

abbrev pub decreases-writes : goal.decreases-writes
decreases-writes g l = length l.text - l.at
