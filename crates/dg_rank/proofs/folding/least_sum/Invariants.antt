use Rattle.dg_rank.proofs.Common.{◌≡◌, ℕ, ◌-◌, ◌<◌, ◌≤◌, pos, ◌+ℤ◌, ◌≤ℤ◌, slice_index_or}
use Rattle.dg_rank.proofs.folding.least_sum.Given as goal

abbrev pub invariant-loop-b : goal.invariant-loop-b
invariant-loop-b l = record {
  least : (b : ℕ) → b < l.b →
      l.least ≤ℤ (slice_index_or l.first (l.place - b) (pos 0) +ℤ slice_index_or l.second b (pos 0));
  part : l.part ≤ l.place;
  is : l.least ≡ slice_index_or l.first (l.place - l.part) (pos 0) +ℤ slice_index_or l.second l.part (pos 0);
}
