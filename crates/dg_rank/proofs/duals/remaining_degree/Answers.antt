use Rattle.dg_rank.proofs.Common.{arith, ints, at}
use Rattle.dg_rank.proofs.SmallDegrees.{degree_small}
use Rattle.dg_rank.proofs.duals.remaining_degree.Goals as goal

pub overflow_sub-result : goal.overflow_sub-result
overflow_sub-result c =
    let small = degree_small c.args.divisor.now.size (at c.args.divisor.now) c.size-amounts.ensures.divisor.within in
    omega (arith, ints, small, c.size-amounts.ensures.divisor.few)

pub returns : goal.returns
returns c =
    let small = degree_small c.args.divisor.now.size (at c.args.divisor.now) c.size-amounts.ensures.divisor.within in
    omega (arith, ints, small, c.size-amounts.ensures.divisor.few)
