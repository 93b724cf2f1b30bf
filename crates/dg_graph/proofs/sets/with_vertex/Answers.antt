use Rattle.dg_graph.proofs.SetLaws.{with_bit}
use Rattle.dg_graph.proofs.sets.with_vertex.Goals as goal

pub returns : goal.returns
returns c = with_bit c.args.set c.args.v c.requires
