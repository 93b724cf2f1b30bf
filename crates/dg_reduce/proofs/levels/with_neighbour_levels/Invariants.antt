use Rattle.dg_reduce.proofs.Common.{◌≡◌, ℕ, ◌<◌, ◌≤◌, length, slice_index, spread_level}
use Rattle.dg_reduce.proofs.levels.with_neighbour_levels.Given as goal

abbrev pub invariant-loop-w : goal.invariant-loop-w
invariant-loop-w l = record {
  whole : length l.reached ≡ 16;
  done : (u : ℕ) → u < l.w → slice_index l.reached u ≡ spread_level l.graph l.v l.level (slice_index l.levels) u;
  rest : (u : ℕ) → l.w ≤ u → slice_index l.reached u ≡ slice_index l.levels u;
}
