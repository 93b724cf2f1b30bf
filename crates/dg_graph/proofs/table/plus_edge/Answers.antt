use Rattle.dg_graph.proofs.Common.{◌<◌, length, rules}
use Rattle.dg_graph.proofs.Joined.{set-table_with_edge}
use Rattle.dg_graph.proofs.table.plus_edge.Goals as goal

pub returns : goal.returns
returns c =
    let inside : c.args.u < length c.args.table = search rules in
    rw c.row_plus_edge.ensures (set-table_with_edge c.args.table c.args.u c.args.v inside)
