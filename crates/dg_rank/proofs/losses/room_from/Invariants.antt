use Rattle.dg_rank.proofs.Common.{◌≡◌, ℕ, ◌<◌, ◌≤◌, length, slice_index}
use Rattle.dg_rank.proofs.losses.room_from.Given as goal

abbrev pub invariant-loop-v : goal.invariant-loop-v
invariant-loop-v l = record {
  places : length l.room ≡ 16;
  before : (u : ℕ) → u < l.place → slice_index l.room u ≡ 0;
  past : (u : ℕ) → l.place ≤ u → u < l.v → slice_index l.room u ≡ l.dollars;
}
