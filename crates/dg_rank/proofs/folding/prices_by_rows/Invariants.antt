use Rattle.dg_rank.proofs.Common.{◌≡◌, ℕ, ◌<◌, ◌≤◌, true, false, pos, ◌-ℤ◌, [], length, slice_index, slice_index_or, in_set}
use Rattle.dg_rank.specs.Folding.{worth}
use Rattle.dg_rank.proofs.folding.prices_by_rows.Given as goal

abbrev pub invariant-loop-v : goal.invariant-loop-v
invariant-loop-v l = record {
  places : length l.prices ≡ 16;
  rising : (u s t : ℕ) → s ≤ t → t ≤ l.dollars →
      slice_index (slice_index_or l.prices u []) s ≤ slice_index (slice_index_or l.prices u []) t;
  cheap : (u t : ℕ) → t ≤ l.dollars → slice_index (slice_index_or l.prices u []) t ≤ 1000;
  unfolded : (u t : ℕ) → u < l.v → t ≤ l.dollars → in_set l.unfolded u ≡ true →
      pos (slice_index (slice_index_or l.prices u []) t) ≡ worth l.rows u 0 -ℤ worth l.rows u t;
  folded : (u t : ℕ) → t ≤ l.dollars → in_set l.unfolded u ≡ false → slice_index (slice_index_or l.prices u []) t ≡ 0;
}
