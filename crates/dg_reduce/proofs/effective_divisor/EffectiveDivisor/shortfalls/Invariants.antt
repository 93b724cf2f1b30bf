use Rattle.dg_reduce.proofs.Common.{◌≡◌, ℕ, ◌<◌, ◌-◌, length, slice_index, unsigned_abs, at}
use Rattle.dg_reduce.proofs.effective_divisor.EffectiveDivisor.shortfalls.Given as goal

abbrev pub invariant-loop-v : goal.invariant-loop-v
invariant-loop-v l = record {
  places : length l.lacks ≡ 16;
  done : (u : ℕ) → u < l.v → u < l.self.size →
      slice_index l.lacks u ≡ slice_index l.numbers u - unsigned_abs (at l.self u);
}
