use Rattle.dg_rank.proofs.Common.{◌≡◌, arith, ints, to_z, of_z, w64, at}
use Rattle.dg_rank.proofs.LeastLosses.{own_side, dual_side}
use Rattle.dg_rank.proofs.numbers.lesser_side.Goals as goal

pub returns-then-difference-gt0-clause-side : goal.returns-then-difference-gt0-clause-side
returns-then-difference-gt0-clause-side c =
    let apart = c.rank_difference-difference.result in
    let kept : to_z w64 (of_z w64 apart) ≡ apart = omega (arith, ints, c.rank_difference-difference.ensures.small) in
    dual_side c.args.graph.now (at c.args.divisor.now) (at c.dual_amounts.result) c.size-size.ensures.graph.multigraph
    c.requires.some _ c.dual_amounts.ensures.amounts
    (omega (arith, ints, kept, c.rank_difference-difference.ensures.apart, c.if-difference-gt0.true))

pub returns-else-difference-gt0-clause-side : goal.returns-else-difference-gt0-clause-side
returns-else-difference-gt0-clause-side c =
    let apart = c.rank_difference-difference.result in
    let kept : to_z w64 (of_z w64 apart) ≡ apart = omega (arith, ints, c.rank_difference-difference.ensures.small) in
    own_side c.args.graph.now (at c.args.divisor.now) (at c.of.result) c.size-size.ensures.graph.multigraph
    c.requires.some (λ v below. c.of.ensures.amounts v (omega (arith, c.requires.size)))
    (omega (arith, ints, kept, c.rank_difference-difference.ensures.apart, c.if-difference-gt0.false))
