use Rattle.dg_rank.proofs.Common.{◌≡◌, ℕ, ◌<◌, ◌≤◌, pos, ◌≤ℤ◌, slice_index, degree, only_at, minus, IsWinnable, IsInLinearSystem, at}
use Rattle.dg_rank.proofs.boxes.find_unpaid_dollar.Given as goal

abbrev pub invariant-loop-v : goal.invariant-loop-v
invariant-loop-v l = record {
  class : IsInLinearSystem l.graph (at l.fn.left) l.left;
  small : degree l.graph.size (at l.left) ≤ℤ pos 32000000;
  most : (u : ℕ) → u < l.graph.size → slice_index l.lacks u ≤ slice_index l.costs u;
  payable : (u : ℕ) → u < l.graph.size → slice_index l.lacks u ≡ 0 →
      IsWinnable l.graph (minus (at l.fn.left) (only_at u (pos (slice_index l.costs u))));
  done : (u : ℕ) → u < l.v → IsWinnable l.graph (minus (at l.fn.left) (only_at u (pos (slice_index l.costs u))));
}
