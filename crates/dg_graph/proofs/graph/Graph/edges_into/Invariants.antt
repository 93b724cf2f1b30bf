use Rattle.dg_graph.proofs.Common.{if◌then◌else◌, ◌≡◌, ◌*◌, ◌≤◌, nat_sum_below, edges_between}
use Rattle.dg_graph.specs.Sets.{in_set}
use Rattle.dg_graph.proofs.graph.Graph.edges_into.Given as goal

abbrev pub invariant-loop-w : goal.invariant-loop-w
invariant-loop-w l = record {
  sum : l.sum ≡ nat_sum_below l.w (λ u. if in_set l.set u then edges_between l.self l.v u else 0);
  limit : l.sum ≤ 255 * l.w;
}
