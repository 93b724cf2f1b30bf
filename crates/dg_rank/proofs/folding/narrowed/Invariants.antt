use Rattle.dg_rank.proofs.Common.{◌≡◌, ℕ, ◌≤◌, length, slice_index}
use Rattle.dg_rank.proofs.folding.narrowed.Given as goal

abbrev pub invariant-loop-v : goal.invariant-loop-v
invariant-loop-v l = record {
  places : length l.narrow ≡ 16;
  less : (u : ℕ) → slice_index l.narrow u ≤ slice_index l.room u;
}
