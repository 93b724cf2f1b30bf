use Rattle.dg_table.proofs.Common.{◌≡◌, ◌+◌, arith, subst, inl, inr, cases_lt, HasSeat}
use Rattle.dg_table.proofs.held.first_missing.Goals as goal

pub loop-i-preserved : goal.loop-i-preserved
loop-i-preserved g c = λ s least most. elim (cases_lt c.loop-i.i s) [
  | inl last ↦
      let here : c.loop-i.i + 1 ≡ s = omega arith in
      subst (HasSeat c.args.seats.now) here (c.has_seat.ensures.0 c.if-not-has_seat.false)
  | inr before ↦ c.loop-i.invariant s least before
]
