use Rattle.dg_chips.proofs.Common.{◌≡◌, ℕ, ◌<◌, length, slice_index_or, pos}
use Rattle.dg_chips.proofs.vector.to_i64s.Given as goal

abbrev pub invariant-loop-v : goal.invariant-loop-v
invariant-loop-v l = record {
  size : length l.widened ≡ 16;
  same : (w : ℕ) → w < l.v → slice_index_or l.widened w (pos 0) ≡ slice_index_or l.numbers w (pos 0);
}
