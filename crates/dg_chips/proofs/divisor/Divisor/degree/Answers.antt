use Rattle.dg_chips.proofs.Common.{◌*◌, arith, refl, w64, ◌+ℤ◌, to_z, abs-add, sum_below-more, at}
use Rattle.dg_chips.proofs.FlowLaws.{held}
use Rattle.dg_chips.proofs.divisor.Divisor.degree.Goals as goal

pub overflow_add-sum : goal.overflow_add-sum
overflow_add-sum c =
    let got = (held c.get-sum.result (omega arith)).1 in
    let limit = abs-add (to_z w64 c.loop-v.sum-bits) c.get-sum.result
    (1000000 * c.loop-v.v) 1000000 c.loop-v.invariant.limit c.get-sum.ensures.limit in
    rw got (held (to_z w64 c.loop-v.sum-bits +ℤ c.get-sum.result) (omega arith)).0

pub loop-v-preserved : goal.loop-v-preserved
loop-v-preserved c =
    let got = (held c.get-sum.result (omega arith)).1 in
    let limit = abs-add (to_z w64 c.loop-v.sum-bits) c.get-sum.result
    (1000000 * c.loop-v.v) 1000000 c.loop-v.invariant.limit c.get-sum.ensures.limit in
    let more = (held (to_z w64 c.loop-v.sum-bits +ℤ c.get-sum.result) (omega arith)).1 in
    rw (got, more) (record {
      sum = sum_below-more c.loop-v.v (at c.args.self.now)
          (to_z w64 c.loop-v.sum-bits) c.get-sum.result _ c.loop-v.invariant.sum c.get-sum.ensures.amount refl;
      limit = omega arith;
    })
