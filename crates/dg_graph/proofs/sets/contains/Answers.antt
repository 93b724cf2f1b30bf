use Rattle.dg_graph.proofs.Common.{ap, nat_eq, shr_and_one}
use Rattle.dg_graph.specs.Sets.{in_set}
use Rattle.dg_graph.proofs.sets.contains.Goals as goal

pub returns : goal.returns
unfolding in_set
returns c = ap (λ bit. nat_eq bit 1) (shr_and_one c.args.set c.args.v)
