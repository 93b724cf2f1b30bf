use Rattle.dg_rank.proofs.Common.{◌≡◌, ℕ, ◌<◌, length, min, slice_index}
use Rattle.dg_rank.proofs.prices.lesser.Given as goal

abbrev pub invariant-loop-v : goal.invariant-loop-v
invariant-loop-v l = record {
  places : length l.least ≡ 16;
  done : (u : ℕ) → u < l.v → slice_index l.least u ≡ min (slice_index l.first u) (slice_index l.second u);
}
