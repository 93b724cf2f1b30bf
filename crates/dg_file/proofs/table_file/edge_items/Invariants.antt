use Rattle.dg_file.proofs.Common.{◌≡◌, take, map, edge_item}
use Rattle.dg_file.proofs.table_file.edge_items.Given as goal

abbrev pub invariant-loop-edge : goal.invariant-loop-edge
invariant-loop-edge l = l.items.items ≡ map (edge_item l.names) (take l.edge-index l.edge-items)
