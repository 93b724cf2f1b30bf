use Rattle.dg_graph.proofs.Common.{arith}
use Rattle.dg_graph.proofs.Squares.{set_square}
use Rattle.dg_graph.proofs.build.add_edges.Goals as goal

pub returns-clause-square : goal.returns-clause-square
returns-clause-square c =
    set_square c.args.table.now c.args.u c.row_plus_edges.result c.requires.u (omega arith) c.requires.square
