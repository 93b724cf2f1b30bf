use Rattle.dg_reduce.proofs.Common.{◌≡◌, ℕ, ◌<◌, ◌≤◌, length, slice_index_or, pos, fired, indicator, at}
use Rattle.dg_graph.specs.Sets.{in_set}
use Rattle.dg_reduce.proofs.effective_divisor.EffectiveDivisor.fire.Given as goal

abbrev pub invariant-loop-v : goal.invariant-loop-v
invariant-loop-v l = record {
  size : length l.amounts ≡ 16;
  same : (w : ℕ) → w < l.v →
      slice_index_or l.amounts w (pos 0) ≡ fired l.graph (at l.fn.self) (indicator (in_set l.rest.set)) w;
  left : (w : ℕ) → l.v ≤ w → slice_index_or l.amounts w (pos 0) ≡ at l.fn.self w;
}
