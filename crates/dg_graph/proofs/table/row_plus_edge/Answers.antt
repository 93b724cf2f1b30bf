use Rattle.dg_graph.proofs.Common.{◌<◌, length, rules}
use Rattle.dg_graph.proofs.Joined.{set-row_with_edge}
use Rattle.dg_graph.proofs.table.row_plus_edge.Goals as goal

pub returns : goal.returns
returns c = let inside : c.args.v < length c.args.row = search rules in set-row_with_edge c.args.row c.args.v inside
