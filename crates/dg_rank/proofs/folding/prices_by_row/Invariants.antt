use Rattle.dg_rank.proofs.Common.{◌≡◌, ℕ, ◌<◌, ◌≤◌, length, slice_index, slice_index_or, pos, ◌-ℤ◌}
use Rattle.dg_rank.proofs.folding.prices_by_row.Given as goal

abbrev pub invariant-loop-t : goal.invariant-loop-t
invariant-loop-t l = record {
  places : length l.prices ≡ 105;
  rising : (s t : ℕ) → s ≤ t → t < l.t → slice_index l.prices s ≤ slice_index l.prices t;
  cheap : (t : ℕ) → t < l.t → slice_index l.prices t ≤ 1000;
  less : (t : ℕ) → t < l.t →
      pos (slice_index l.prices t) ≡ slice_index_or l.amounts 0 (pos 0) -ℤ slice_index_or l.amounts t (pos 0);
}
