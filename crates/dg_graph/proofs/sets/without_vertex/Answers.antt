use Rattle.dg_graph.proofs.SetLaws.{without_bit}
use Rattle.dg_graph.proofs.sets.without_vertex.Goals as goal

pub returns : goal.returns
returns c = without_bit c.args.set c.args.v c.requires.few c.requires.member
