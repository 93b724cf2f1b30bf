use Rattle.dg_chips.proofs.Common.{ℕ, ◌<◌, ◌≤ℤ◌, pos, at}
use Rattle.dg_chips.proofs.divisor.Divisor.is_effective.Given as goal

abbrev pub invariant-loop-v : goal.invariant-loop-v
invariant-loop-v l = (u : ℕ) → u < l.v → pos 0 ≤ℤ at l.self u
