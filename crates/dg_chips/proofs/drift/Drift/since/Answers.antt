use Rattle.dg_chips.proofs.Common.{◌≤◌, arith, below_more, unsigned_abs, ints, ◌-ℤ◌}
use Rattle.dg_chips.proofs.VectorLaws.{filled_more}
use Rattle.dg_chips.proofs.DriftLaws.{held_difference}
use Rattle.dg_chips.proofs.drift.Drift.since.Goals as goal

pub loop-v-preserved : goal.loop-v-preserved
loop-v-preserved c =
    let held = held_difference c.get.result c.get-in-loop-v.result c.get.ensures.limit c.get-in-loop-v.ensures.limit in
    let near : unsigned_abs (c.get.result -ℤ c.get-in-loop-v.result) ≤ 100000000000000 =
    rw (← held) (omega arith) in
    record {
      filled = filled_more _ _ _ _ (omega arith) (omega (arith, ints)) c.loop-v.invariant.filled;
      near = below_more _ _ c.loop-v.invariant.near (rw (← c.get.ensures.entry, ← c.get-in-loop-v.ensures.entry) near);
    }
