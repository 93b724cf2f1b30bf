use Rattle.dg_chips.proofs.Common.{ℕ, ◌<◌, ◌≤◌, unsigned_abs, ◌-ℤ◌, at}
use Rattle.dg_chips.proofs.VectorLaws.{IsFilled}
use Rattle.dg_chips.proofs.divisor.Divisor.minus.Given as goal

abbrev pub invariant-loop-v : goal.invariant-loop-v
invariant-loop-v l = record {
  filled : IsFilled l.amounts l.v (λ w. at l.self w -ℤ at l.other w);
  near : (w : ℕ) → w < l.v → unsigned_abs (at l.self w -ℤ at l.other w) ≤ 1000000;
}
