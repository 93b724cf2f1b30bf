use Rattle.dg_graph.proofs.Common.{arith}
use Rattle.dg_graph.proofs.Listed.{edges_listed-nil, edges_listed-more, item-right}
use Rattle.dg_graph.proofs.NoEdges.{entry-none}
use Rattle.dg_graph.proofs.Squares.{none_square}
use Rattle.dg_graph.proofs.build.edge_table.Goals as goal

pub items-init : goal.items-init
items-init c = record {
  cells = λ a b. omega (arith, entry-none 16 16 a b, edges_listed-nil a b);
  square = none_square;
}

pub add_item-requires-clause-item : goal.add_item-requires-clause-item
add_item-requires-clause-item c =
    item-right c.args.size 16 c.args.items.now c.items.item-index (0, 0, 0) c.requires.size.1 c.requires.items
    c.items-test.true

pub items-preserved : goal.items-preserved
items-preserved c = record {
  cells = λ a b.
      omega (
        arith,
        c.items.invariant.cells a b,
        c.add_item.ensures.cells a b,
        edges_listed-more c.args.items.now c.items.item-index (0, 0, 0) a b c.items-test.true,
      );
  square = c.add_item.ensures.square;
}
