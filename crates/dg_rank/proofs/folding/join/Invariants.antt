use Rattle.dg_rank.proofs.Common.{◌≡◌, ℕ, ◌-◌, ◌<◌, ◌≤◌, pos, ◌+ℤ◌, ◌≤ℤ◌, length, slice_index_or}
use Rattle.dg_rank.proofs.folding.join.Given as goal

abbrev pub invariant-loop-t : goal.invariant-loop-t
invariant-loop-t l = record {
  places : length l.row ≡ 105;
  part_places : length l.parts ≡ 105;
  row : (t b : ℕ) → t < l.t → b ≤ t → slice_index_or l.row t (pos 0)
      ≤ℤ (slice_index_or l.parent (t - b) (pos 0) +ℤ slice_index_or l.rounds b (pos 0));
}
