use Rattle.dg_reduce.proofs.Common.{◌≡◌, ℕ, ◌<◌, ◌≤◌, length, slice_index_or, unsigned_abs, pos, gain, indicator}
use Rattle.dg_graph.specs.Sets.{in_set}
use Rattle.dg_reduce.proofs.effective_divisor.rest_gains.Given as goal

abbrev pub invariant-loop-v : goal.invariant-loop-v
invariant-loop-v l = record {
  places : length l.gains ≡ 16;
  same : (w : ℕ) → w < l.v →
      slice_index_or l.gains w (pos 0) ≡ gain l.graph (indicator (in_set l.rest.burnt.unburnt)) w;
  few : (w : ℕ) → unsigned_abs (slice_index_or l.gains w (pos 0)) ≤ 63;
}
