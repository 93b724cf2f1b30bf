use Rattle.dg_theory.specs.Multigraph.{entry}
use Rattle.dg_graph.proofs.Capped.{capped-put}
use Rattle.dg_graph.proofs.build.add_item.Goals as goal

pub returns-clause-cells : goal.returns-clause-cells
returns-clause-cells c =
    capped-put (entry c.args.table.now) (entry c.add_edges.new.table) (entry c.add_edges-2.new.table) c.args.item
    c.from-u.result c.from-v.result c.from-u.ensures c.from-v.ensures c.requires.item.different c.requires.capped
    c.add_edges.ensures.at c.add_edges.ensures.row c.add_edges.ensures.others
    c.add_edges-2.ensures.at c.add_edges-2.ensures.row c.add_edges-2.ensures.others
