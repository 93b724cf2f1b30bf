use Rattle.dg_graph.proofs.Common.{◌≡◌, ◌*◌, ◌≤◌, nat_sum_below}
use Rattle.std.proofs.Common.{slice_index}
use Rattle.dg_graph.proofs.table.row_sum.Given as goal

abbrev pub invariant-loop-v : goal.invariant-loop-v
invariant-loop-v l = (l.sum ≡ nat_sum_below l.v (slice_index l.row)) × (l.sum ≤ 255 * l.v)
