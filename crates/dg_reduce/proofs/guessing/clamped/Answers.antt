use Rattle.dg_reduce.proofs.Common.{◌<◌, length, length-set, arith, ◌∙◌, ints}
use Rattle.dg_reduce.proofs.Entries.{few_set}
use Rattle.dg_reduce.proofs.guessing.clamped.Goals as goal

pub loop-v-preserved : goal.loop-v-preserved
loop-v-preserved c =
    let inside : c.loop-v.v < length c.loop-v.entries = omega arith in
    record {
      places = length-set _ _ _ ∙ c.loop-v.invariant.places;
      few = few_set _ c.loop-v.entries c.loop-v.v _ inside (grind (arith, ints, c.clamp.ensures)) c.loop-v.invariant.few;
    }
