use Rattle.dg_rank.proofs.Common.{◌<◌, ◌≤◌, arith, ints, valence}
use Rattle.dg_rank.proofs.duals.dual_amounts.Goals as goal

pub returns-clause-range : goal.returns-clause-range
returns-clause-range c v inside =
    let below : v < c.args.divisor.now.size = omega (arith, c.requires) in
    let below' : v < c.canonical-canonical.result.size = omega (arith, c.canonical-canonical.ensures.size) in
    let few : valence c.args.graph.now v ≤ 63 = c.size-size.ensures.graph.valences v inside in
    omega (
      arith,
      ints,
      c.minus.ensures.amounts v (omega (arith, c.of.ensures.size)),
      c.of.ensures.amounts v below',
      c.canonical-canonical.ensures.amounts v inside,
      c.size-amounts.ensures.divisor.within v below,
    )
