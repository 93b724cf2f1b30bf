use Rattle.dg_strategy.proofs.Common.{ℕ, ◌<◌, ◌≤ℤ◌, pos, at}
use Rattle.dg_strategy.proofs.least_debtor.least_debtor.Given as goal

abbrev pub invariant-loop-v : goal.invariant-loop-v
invariant-loop-v l = (w : ℕ) → w < l.v → pos 0 ≤ℤ at l.position w
