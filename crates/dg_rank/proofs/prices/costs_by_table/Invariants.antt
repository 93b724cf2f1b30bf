use Rattle.dg_rank.proofs.Common.{◌≡◌, ℕ, ◌<◌, length, Some, slice_index}
use Rattle.dg_rank.specs.Prices.{paid}
use Rattle.dg_rank.proofs.prices.costs_by_table.Given as goal

abbrev pub invariant-loop-v : goal.invariant-loop-v
invariant-loop-v l = record {
  places : length l.costs ≡ 16;
  done : (u : ℕ) → u < l.v → slice_index l.costs u ≡ paid (Some l.table) l.lost u (slice_index l.dollars u);
}
