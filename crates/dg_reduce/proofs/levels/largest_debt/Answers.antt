use Rattle.dg_reduce.proofs.Common.{◌≡◌, ◌^◌, arith, w128, to_z, ints, within_abs, at}
use Rattle.std.specs.Prelude.{slice_index}
use Rattle.dg_reduce.proofs.LevelSteps.{debt_more, debt_same}
use Rattle.dg_reduce.proofs.levels.largest_debt.Goals as goal
use Rattle.dg_reduce.proofs.levels.largest_debt.Goals.{then-levels-v+then-get-debt, else-levels-v, else-levels-v-via-then-levels-v+else-get-debt, else-levels-v-via-else-levels-v}

pub loop-v-preserved : goal.loop-v-preserved
loop-v-preserved c =
    let (low, high) = within_abs (at c.args.chips.now c.loop-v.v) (2 ^ 120) (c.requires c.loop-v.v (omega arith)) in
    elim c.if-levels-v.branch [
      | then-levels-v+then-get-debt w ↦
          debt_more c.loop-v.v (slice_index c.args.levels.now) c.args.level (at c.args.chips.now)
          (to_z w128 c.loop-v.debt-bits)
          (to_z w128 c.if-levels-v.debt-bits) c.loop-v.invariant (omega (arith, w.if-levels-v.true))
          (omega (arith, ints, w.if-get-debt.true, w.get.ensures, c.loop-v.invariant.some))
          (omega (arith, ints, w.debt-is, w.get-debt.ensures))
      | else-levels-v w ↦
          let now : to_z w128 c.if-levels-v.debt-bits ≡ to_z w128 c.loop-v.debt-bits = omega (arith, ints, w.debt-is) in
          rw now
          (debt_same c.loop-v.v (slice_index c.args.levels.now) c.args.level (at c.args.chips.now)
          (to_z w128 c.loop-v.debt-bits)
          c.loop-v.invariant (λ on. elim w.else-levels-v.branch [
            | else-levels-v-via-then-levels-v+else-get-debt u ↦
                omega (arith, ints, u.if-get-debt.false, u.get.ensures, c.loop-v.invariant.some)
            | else-levels-v-via-else-levels-v u ↦ absurd (omega (arith, on, u.if-levels-v.false))
          ]))
    ]
