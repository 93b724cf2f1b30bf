use Rattle.dg_verdict.proofs.Common.{arith, sym, ap, ◌∙◌, ◌≤ℤ◌, ints, ℤ, pos, ◌+ℤ◌, gain, at}
use Rattle.dg_verdict.proofs.Verdicts.{is_right}
use Rattle.dg_verdict.proofs.verdict.judge_with_inverse.Goals as goal

-- the script leads from the amounts of the divisor themselves
pub returns : goal.returns
returns c = record {
  right =
      is_right c.args.graph.now c.args.q (at c.args.divisor.now) _ c.requires.vertex
      c.certified_by-found.ensures.reduction.sizes.1 c.certified_by-found.ensures.reduction.sizes.0
      c.certified_by-found.ensures.reduction.at_q
      (λ v inside. c.certified_by-found.ensures.reduction.led v inside
      ∙ ap (λ (z : ℤ). z +ℤ gain c.args.graph.now (at c.certified_by-found.result.reduced.script) v)
      (c.of.ensures.amounts v (omega (arith, c.requires.size))))
      c.certified_by-found.ensures.reduction.reduced c.certified_by-found.ensures.order.burns (
        λ told. omega (arith, ints),
        λ (paid : pos 0 ≤ℤ at c.certified_by-found.result.reduced.divisor c.args.q). sym (omega (arith, ints)),
      );
  order = c.certified_by-found.ensures.order;
}
