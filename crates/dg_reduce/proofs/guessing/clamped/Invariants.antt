use Rattle.dg_reduce.proofs.Common.{◌≡◌, ℕ, ◌≤◌, length, slice_index_or, unsigned_abs}
use Rattle.std.proofs.Common.{pos}
use Rattle.dg_reduce.proofs.guessing.clamped.Given as goal

abbrev pub invariant-loop-v : goal.invariant-loop-v
invariant-loop-v l = record {
  places : length l.entries ≡ 16;
  few : (w : ℕ) → unsigned_abs (slice_index_or l.entries w (pos 0)) ≤ 1000000000;
}
