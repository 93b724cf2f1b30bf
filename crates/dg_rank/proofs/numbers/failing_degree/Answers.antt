use Rattle.dg_rank.proofs.Common.{arith, ints, clamps}
use Rattle.dg_rank.proofs.SmallDegrees.{genus_small}
use Rattle.dg_rank.proofs.numbers.failing_degree.Goals as goal

pub returns-clause-few : goal.returns-clause-few
returns-clause-few c =
    omega (arith, ints, clamps, c.max.ensures.value, c.genus.ensures, genus_small c.args.graph.now c.size-size.ensures.graph)
