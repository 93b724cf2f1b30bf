use Rattle.dg_graph.proofs.Common.{arith, refl}
use Rattle.dg_graph.proofs.Given.{cells-symmetric, cells-high, cells-exact, cells-parted, cells-graph}
use Rattle.dg_graph.proofs.graph.Graph.new.Goals as goal

pub is_connected-requires-clause-symmetric : goal.is_connected-requires-clause-symmetric
is_connected-requires-clause-symmetric c = cells-symmetric _ _ c.edge_table-table.ensures.cells

pub returns-in-Some-first_high_valence : goal.returns-in-Some-first_high_valence
returns-in-Some-first_high_valence c = (
  (omega arith, omega arith),
  c.in_default.ensures,
  cells-high c.args.size c.args.items.now c.edge_table-table.result c.in-Some-first_high_valence.v
      c.edge_table-table.ensures.cells
      c.in-Some-first_high_valence.ensures.0 c.in-Some-first_high_valence.ensures.1 c.in-Some-first_high_valence.ensures.2,
)

pub returns-then-not-is_connected : goal.returns-then-not-is_connected
returns-then-not-is_connected c = (
  (omega arith, omega arith),
  c.in_default.ensures,
  cells-parted c.args.size c.args.items.now c.edge_table-table.result (omega arith, omega arith) c.in_default.ensures
      c.edge_table-table.ensures.cells c.in_default-first_high_valence.ensures c.if-not-is_connected.ensures,
)

pub valences_of-valences-requires : goal.valences_of-valences-requires
valences_of-valences-requires c =
    cells-graph c.args.size c.args.items.now c.edge_table-table.result (omega arith, omega arith) c.in_default.ensures
    c.edge_table-table.ensures.cells c.in_default-first_high_valence.ensures c.if-not-is_connected.ensures
    c.edge_table-table.ensures.square

pub invariant_of-result : goal.invariant_of-result
invariant_of-result c = record {
  graph = cells-graph c.args.size c.args.items.now c.edge_table-table.result
      (omega arith, omega arith) c.in_default.ensures
      c.edge_table-table.ensures.cells c.in_default-first_high_valence.ensures c.if-not-is_connected.ensures
      c.edge_table-table.ensures.square;
  valences = c.valences_of-valences.ensures;
}

pub returns : goal.returns
returns c = record {
  graph = cells-graph c.args.size c.args.items.now c.edge_table-table.result
      (omega arith, omega arith) c.in_default.ensures
      c.edge_table-table.ensures.cells c.in_default-first_high_valence.ensures c.if-not-is_connected.ensures
      c.edge_table-table.ensures.square;
  size = refl;
  right = c.in_default.ensures;
  edges = cells-exact c.args.size c.args.items.now c.edge_table-table.result c.in_default.ensures
      c.edge_table-table.ensures.cells c.in_default-first_high_valence.ensures;
}
