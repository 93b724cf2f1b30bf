use Rattle.dg_reduce.proofs.Common.{at, IsLargestDebt}
use Rattle.std.specs.Prelude.{slice_index}
use Rattle.dg_reduce.proofs.levels.largest_debt.Given as goal

abbrev pub invariant-loop-v : goal.invariant-loop-v
invariant-loop-v l = IsLargestDebt l.v (slice_index l.levels) l.level (at l.chips) l.debt
