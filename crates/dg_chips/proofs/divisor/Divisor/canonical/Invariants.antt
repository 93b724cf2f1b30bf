use Rattle.dg_chips.proofs.Common.{ℕ, ◌<◌, ◌≤◌, unsigned_abs, canonical}
use Rattle.dg_chips.proofs.VectorLaws.{IsFilled}
use Rattle.dg_chips.proofs.divisor.Divisor.canonical.Given as goal

abbrev pub invariant-loop-v : goal.invariant-loop-v
invariant-loop-v l = record {
  filled : IsFilled l.amounts l.v (canonical l.graph);
  near : (w : ℕ) → w < l.v → unsigned_abs (canonical l.graph w) ≤ 1000000;
}
