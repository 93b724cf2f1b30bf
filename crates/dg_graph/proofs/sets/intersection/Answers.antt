use Rattle.dg_graph.proofs.SetLaws.{both_bits}
use Rattle.dg_graph.proofs.sets.intersection.Goals as goal

pub returns : goal.returns
returns c = λ v. both_bits c.args.set c.args.other v
