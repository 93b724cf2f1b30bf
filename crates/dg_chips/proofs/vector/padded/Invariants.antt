use Rattle.dg_chips.proofs.Common.{◌≡◌, ℕ, ◌<◌, ◌≤◌, length, slice_index_or}
use Rattle.dg_chips.proofs.vector.padded.Given as goal

abbrev pub invariant-loop-v : goal.invariant-loop-v
invariant-loop-v g l = record {
  size : length l.whole ≡ 16;
  same : (w : ℕ) → w < l.v → slice_index_or l.whole w l.fn.zero ≡ slice_index_or l.numbers w l.fn.zero;
  zero : (w : ℕ) → l.v ≤ w → slice_index_or l.whole w l.fn.zero ≡ l.fn.zero;
}
