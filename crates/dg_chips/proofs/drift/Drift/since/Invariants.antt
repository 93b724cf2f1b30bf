use Rattle.dg_chips.proofs.Common.{ℕ, ◌<◌, ◌≤◌, unsigned_abs, ◌-ℤ◌, at}
use Rattle.dg_chips.proofs.VectorLaws.{IsFilled}
use Rattle.dg_chips.proofs.drift.Drift.since.Given as goal

abbrev pub invariant-loop-v : goal.invariant-loop-v
invariant-loop-v l = record {
  filled : IsFilled l.entries l.v (λ w. at l.self w -ℤ at l.earlier w);
  near : (w : ℕ) → w < l.v → unsigned_abs (at l.self w -ℤ at l.earlier w) ≤ 100000000000000;
}
