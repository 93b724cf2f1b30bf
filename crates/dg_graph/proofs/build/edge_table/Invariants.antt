use Rattle.dg_graph.proofs.Common.{◌≡◌, ℕ, min, take, HasSixteenRows}
use Rattle.dg_theory.specs.Multigraph.{entry}
use Rattle.dg_graph.specs.Items.{edges_listed}
use Rattle.dg_graph.proofs.build.edge_table.Given as goal

abbrev pub invariant-items : goal.invariant-items
invariant-items l = record {
  cells : (a b : ℕ) → entry l.table a b ≡ min 255 (edges_listed (take l.item-index l.items) a b);
  square : HasSixteenRows l.table;
}
