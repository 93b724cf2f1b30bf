use Rattle.dg_chips.proofs.Common.{◌≡◌, List, arith, ap, ◌∙◌, slice_index_or, ℤ, pos, ints, gain, at}
use Rattle.dg_chips.proofs.VectorLaws.{filled_more}
use Rattle.dg_chips.proofs.firing.fired_amounts.Goals as goal

pub loop-v-preserved : goal.loop-v-preserved
loop-v-preserved c =
    let same : c.gained.result ≡ gain c.args.graph.now (at c.args.script.now) c.loop-v.v =
    c.gained.ensures.gain
    ∙ ap (λ (xs : List ℤ). gain c.args.graph.now (λ w. slice_index_or xs w (pos 0)) c.loop-v.v)
    c.entries-lendings.ensures.entries in
    filled_more _ _ _ _ (omega arith) (omega (arith, ints)) c.loop-v.invariant
