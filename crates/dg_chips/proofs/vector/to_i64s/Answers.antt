use Rattle.dg_chips.proofs.Common.{arith, ext_get_or, sym, ◌∙◌, pos}
use Rattle.dg_chips.proofs.vector.to_i64s.Goals as goal

pub returns : goal.returns
returns c = ext_get_or (pos 0) _ _ (c.loop-v.invariant.size ∙ sym c.told-numbers)
    (λ u below. c.loop-v.invariant.same u (omega arith))
