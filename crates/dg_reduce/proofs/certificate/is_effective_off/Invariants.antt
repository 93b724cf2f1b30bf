use Rattle.dg_reduce.proofs.Common.{◌≢◌, ℕ, ◌<◌, ◌≤ℤ◌, pos, at}
use Rattle.dg_reduce.proofs.certificate.is_effective_off.Given as goal

abbrev pub invariant-loop-v : goal.invariant-loop-v
invariant-loop-v l = (u : ℕ) → u < l.v → u ≢ l.q → pos 0 ≤ℤ at l.chips u
