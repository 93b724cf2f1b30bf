use Rattle.dg_reduce.proofs.Common.{ℕ, ◌<◌, ◌≤◌, unsigned_abs, at}
use Rattle.dg_reduce.proofs.by_levels.may_reduce.Given as goal

abbrev pub invariant-loop-v : goal.invariant-loop-v
invariant-loop-v l = (u : ℕ) → u < l.v → unsigned_abs (at l.chips u) ≤ 2000000
