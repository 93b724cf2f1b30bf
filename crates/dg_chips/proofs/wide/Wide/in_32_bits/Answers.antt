use Rattle.dg_chips.proofs.Common.{◌≤◌, ◌^◌, arith, ext_get_or, sym, ◌∙◌, inl, inr, cases_lt, unsigned_abs, ints, pos, at}
use Rattle.dg_chips.proofs.VectorLaws.{filled_more}
use Rattle.dg_chips.proofs.wide.Wide.in_32_bits.Goals as goal

pub loop-v-preserved : goal.loop-v-preserved
loop-v-preserved c =
    let small : unsigned_abs (at c.args.self.now c.loop-v.v) ≤ 2 ^ 30 = c.requires c.loop-v.v (omega arith) in
    filled_more _ _ _ _ (omega arith) (omega (arith, ints)) c.loop-v.invariant

pub returns-clause-amounts : goal.returns-clause-amounts
returns-clause-amounts c =
    ext_get_or (pos 0) _ _ (c.loop-v.invariant.size ∙ sym c.size-v-end.ensures.wide.places)
    (λ u below. elim (cases_lt u c.args.self.now.size) [
      | inl within ↦ c.loop-v.invariant.same u (omega arith)
      | inr past ↦ c.loop-v.invariant.zero u (omega arith) ∙ sym (c.size-v-end.ensures.wide.inside u past)
    ])
