use Rattle.dg_table.proofs.Common.{◌≡◌, ◌<◌, arith, refl, sym, ap, subst, ◌∙◌, inl, inr, length, slice_get, Some, cases_lt, slice_get_within, slice_get_read, same_Some, HoldsKnown}
use Rattle.dg_table.proofs.held.Held.admits_all.Goals as goal

pub loop-seat-preserved : goal.loop-seat-preserved
loop-seat-preserved g c = λ k x below at. elim (cases_lt k c.loop-seat.seat-index) [
  | inl before ↦ c.loop-seat.invariant k x before at
  | inr after ↦
      let here : k ≡ c.loop-seat.seat-index = omega arith in
      let read : slice_get c.args.seats.now c.loop-seat.seat-index ≡ Some c.seat-item.result =
      slice_get_read c.args.seats.now (length c.args.seats.now) c.loop-seat.seat-index c.seat-item.result refl
      (omega arith) c.seat-item.is in
      let same : c.seat-item.result ≡ x = same_Some _ _ (sym read ∙ ap (slice_get c.args.seats.now) (sym here) ∙ at) in
      subst (HoldsKnown c.args.self.now.entries) same (c.admits.ensures.holds c.if-not-admits.false)
]

pub returns : goal.returns
returns g c = λ k x at.
    let within : k < length c.args.seats.now = slice_get_within c.args.seats.now k x at in
    c.loop-seat.invariant k x (omega arith) at
