use Rattle.dg_chips.proofs.Common.{◌<◌, length, length-set, arith, refl, ◌∙◌, get_or_default, slice_index_or}
use Rattle.dg_chips.proofs.VectorLaws.{at_same, filled, rest}
use Rattle.dg_chips.proofs.vector.padded.Goals as goal

pub loop-v-init : goal.loop-v-init
loop-v-init g c = record {
  size = refl;
  same = λ w none. absurd (omega arith);
  zero = λ w above. at_same 16 w c.args.zero;
}

pub loop-v-preserved : goal.loop-v-preserved
loop-v-preserved g c =
    let within : c.loop-v.v < length c.loop-v.whole = omega arith in
    record {
      size = length-set _ _ _ ∙ c.loop-v.invariant.size;
      same = filled c.args.zero c.loop-v.whole c.loop-v.v _
          (λ w. slice_index_or c.args.numbers.now w c.args.zero) within
          (c.index-numbers-v.is
          ∙ get_or_default c.args.numbers.now c.loop-v.v c.index-numbers-v.result c.args.zero c.loop-v-test.true)
          c.loop-v.invariant.same;
      zero = rest c.args.zero c.loop-v.whole c.loop-v.v _ c.loop-v.invariant.zero;
    }
