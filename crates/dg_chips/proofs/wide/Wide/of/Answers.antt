-- The amounts of the divisor are written one by one.
use Rattle.dg_chips.proofs.Common.{◌≡◌, ◌∙◌, arith}
use Rattle.dg_chips.proofs.FlowLaws.{held, wide_held}
use Rattle.dg_chips.proofs.VectorLaws.{filled_more}
use Rattle.dg_chips.proofs.wide.Wide.of.Goals as goal

pub loop-v-preserved : goal.loop-v-preserved
loop-v-preserved c =
    let value : c.from.result ≡ c.get.result = c.from.ensures ∙ (held c.get.result (omega arith)).1 in
    let kept = (wide_held c.from.result (rw value (omega arith))).1 in
    filled_more _ _ _ _ (omega arith) (kept ∙ value ∙ c.get.ensures.amount) c.loop-v.invariant

pub invariant_of-result : goal.invariant_of-result
invariant_of-result c = record {
  few = omega (arith, c.size-size.ensures.divisor.few);
  places = c.loop-v.invariant.size;
  inside = λ v past. c.loop-v.invariant.zero v (omega arith);
}

pub returns-clause-amounts : goal.returns-clause-amounts
returns-clause-amounts c = λ v below. c.loop-v.invariant.same v (omega arith)

pub returns-clause-wide : goal.returns-clause-wide
returns-clause-wide c = record {
  few = omega (arith, c.size-size.ensures.divisor.few);
  places = c.loop-v.invariant.size;
  inside = λ v past. c.loop-v.invariant.zero v (omega arith);
}
