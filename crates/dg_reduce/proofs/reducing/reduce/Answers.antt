use Rattle.dg_reduce.proofs.Common.{arith, ap, ◌∙◌, ℤ, ◌+ℤ◌, gain, at}
use Rattle.dg_reduce.proofs.Outcome.{reduction_within}
use Rattle.dg_reduce.proofs.reducing.reduce.Goals as goal

pub returns : goal.returns
returns c =
    reduction_within c.args.graph.now c.args.q (at c.args.divisor.now) 1000000 226000000 c.reduce_wide.result
    c.size-size.ensures.graph c.requires.vertex (λ v inside. c.size-amounts.ensures.divisor.within v (omega arith))
    c.reduce_wide.ensures.sizes c.reduce_wide.ensures.reduced
    (λ v inside. c.reduce_wide.ensures.led v inside
    ∙ ap (λ (z : ℤ). z +ℤ gain c.args.graph.now (at c.reduce_wide.result.script) v)
    (c.of.ensures.amounts v (omega arith)))
    c.reduce_wide.ensures.at_q (omega arith)
