use Rattle.dg_graph.proofs.Common.{ℕ, ◌≡◌, Multigraph, IsJoinable}
use Rattle.dg_graph.proofs.Joined.{edges_few, edges_few_back, joined_is, joined_graph}
use Rattle.dg_graph.proofs.graph.Graph.join.Goals as goal

fits : {g h : Multigraph} {x y u v : ℕ} → g ≡ h → x ≡ u → y ≡ v → IsJoinable h u v → IsJoinable g x y
fits graph first second joinable = rw (graph, first, second) joinable

pub plus_edge-once-requires-clause-few : goal.plus_edge-once-requires-clause-few
plus_edge-once-requires-clause-few c =
    let fit = fits c.self.view_is c.from-u.ensures c.from-v.ensures c.in_ok-check_join.ensures in
    edges_few (record { size = c.self.inside.size; table = c.self.inside.table }) c.from-u.result c.from-v.result
    fit.second fit.first_room

pub plus_edge-table-requires-clause-few : goal.plus_edge-table-requires-clause-few
plus_edge-table-requires-clause-few c =
    rw c.plus_edge-once.ensures
    (edges_few_back (record { size = c.self.inside.size; table = c.self.inside.table }) c.from-u.result c.from-v.result
    (fits c.self.view_is c.from-u.ensures c.from-v.ensures c.in_ok-check_join.ensures))

pub valences_of-valences-requires : goal.valences_of-valences-requires
valences_of-valences-requires c =
    joined_graph _ _ _ _ _ c.self.invariant.graph
    (fits c.self.view_is c.from-u.ensures c.from-v.ensures c.in_ok-check_join.ensures)
    c.plus_edge-once.ensures c.plus_edge-table.ensures

pub invariant_of-result : goal.invariant_of-result
invariant_of-result c = record {
  graph =
      joined_graph _ _ _ _ _ c.self.invariant.graph
      (fits c.self.view_is c.from-u.ensures c.from-v.ensures c.in_ok-check_join.ensures)
      c.plus_edge-once.ensures c.plus_edge-table.ensures;
  valences = c.valences_of-valences.ensures;
}

pub returns : goal.returns
returns c =
    let fit = fits c.self.view_is c.from-u.ensures c.from-v.ensures c.in_ok-check_join.ensures in
    rw (← c.self.view_is, ← c.from-u.ensures, ← c.from-v.ensures) (
      joined_is _ _ _ _ _ c.plus_edge-once.ensures c.plus_edge-table.ensures,
      joined_graph _ _ _ _ _ c.self.invariant.graph fit c.plus_edge-once.ensures c.plus_edge-table.ensures,
      fit,
    )
