use Rattle.dg_chips.proofs.Common.{ℕ, ◌<◌, ◌≤◌, unsigned_abs, ◌-ℤ◌, at}
use Rattle.dg_chips.proofs.VectorLaws.{IsFilled}
use Rattle.dg_chips.proofs.drift.Drift.between.Given as goal

abbrev pub invariant-loop-v : goal.invariant-loop-v
invariant-loop-v l = record {
  filled : IsFilled l.entries l.v (λ w. at l.first w -ℤ at l.second w);
  near : (w : ℕ) → w < l.v → unsigned_abs (at l.first w -ℤ at l.second w) ≤ 100000000000000;
}
