use Rattle.dg_chips.proofs.Common.{◌≡◌, ◌≤◌, ◌^◌, arith, unsigned_abs, ints, gain, at}
use Rattle.dg_chips.proofs.VectorLaws.{filled_more}
use Rattle.dg_chips.proofs.wide.Wide.fired_by.Goals as goal

pub loop-v-preserved : goal.loop-v-preserved
loop-v-preserved c =
    let small : unsigned_abs (at c.args.self.now c.loop-v.v) ≤ 2 ^ 120 = c.requires.range c.loop-v.v (omega arith) in
    let same : c.gain_of_script-gain.result ≡ gain c.args.graph.now (at c.args.script.now) c.loop-v.v =
    c.gain_of_script-gain.ensures.gain in
    filled_more _ _ _ _ (omega arith) (omega (arith, ints)) c.loop-v.invariant
