use Rattle.std.proofs.Common.{below_more}
use Rattle.dg_chips.proofs.DriftLaws.{same_answer}
use Rattle.dg_reduce.proofs.Common.{◌+◌, arith, ints, at}
use Rattle.dg_reduce.specs.Rests.{StaysAboveFloor}
use Rattle.dg_reduce.proofs.effective_divisor.EffectiveDivisor.can_fire.Goals as goal
use Rattle.dg_reduce.proofs.effective_divisor.EffectiveDivisor.can_fire.Goals.{then-with_gain-floor, else-with_gain-floor}

pub loop-v-preserved : goal.loop-v-preserved
loop-v-preserved c =
    let v = c.loop-v.v in
    elim c.if-with_gain-floor.branch [
      | then-with_gain-floor w ↦ rw w.stays-is
          (λ (all : StaysAboveFloor (v + 1) c.args.floor.now (at c.args.self.now) c.args.rest.now).
          grind (arith, ints, all v (omega arith), c.with_gain.ensures, w.if-with_gain-floor.true, c.told-floor))
      | else-with_gain-floor w ↦ rw w.stays-is
          (same_answer c.loop-v.stays (StaysAboveFloor v c.args.floor.now (at c.args.self.now) c.args.rest.now)
          (StaysAboveFloor (v + 1) c.args.floor.now (at c.args.self.now) c.args.rest.now)
          (λ before. below_more _ _ before
          (grind (arith, ints, c.with_gain.ensures, w.if-with_gain-floor.false, c.told-floor)))
          (λ all u below. all u (omega arith))
          c.loop-v.invariant)
    ]
