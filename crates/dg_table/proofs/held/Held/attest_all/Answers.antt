use Rattle.dg_table.proofs.Common.{◌≡◌, ◌<◌, arith, refl, sym, ap, subst, ◌∙◌, inl, inr, length, slice_get, Some, slice_set, cases_lt, slice_get_within, slice_get_read, same_Some, SeatView, Written, Attests}
use Rattle.dg_table.proofs.Rolls.{set_same}
use Rattle.dg_table.proofs.Totals.{history_of}
use Rattle.dg_table.proofs.held.Held.attest_all.Goals as goal

pub loop-seat-preserved : goal.loop-seat-preserved
loop-seat-preserved g c =
    let i = c.loop-seat.seat-index in
    let seats = c.loop-seat.seats in
    let kept = c.loop-seat.invariant in
    let read : slice_get seats i ≡ Some c.seat-item.result =
    slice_get_read seats (length seats) i c.seat-item.result refl (omega arith) c.seat-item.is in
    let met : SeatView = c.attest.new.seat in
    let same : met ≡ c.seat-item.result = c.attest.ensures.same.1 ∙ sym c.seat-item.is in
    record {
      held = c.attest.ensures.same.0 ∙ kept.held;
      seats = ap (slice_set seats i) same ∙ set_same seats i c.seat-item.result read ∙ kept.seats;
      attested = λ k x below was. elim (cases_lt k i) [
        | inl before ↦ kept.attested k x before was
        | inr after ↦
            let here : k ≡ i = omega arith in
            let is : c.seat-item.result ≡ x =
            same_Some _ _ (sym read ∙ ap (λ xs. slice_get xs i) kept.seats ∙ ap (slice_get c.args.seats.now) (sym here) ∙ was) in
            subst (λ (w : Written). Attests w.entries x) kept.held
            (subst (Attests c.loop-seat.self.entries) (sym c.seat-item.is ∙ is) c.attest.ensures.attested)
      ];
    }

pub returns-clause-history : goal.returns-clause-history
returns-clause-history g c =
    rw (← c.self.view_is) (history_of c.self.invariant.0 (omega (arith, c.len-len.ensures)))

pub returns-clause-attested : goal.returns-clause-attested
returns-clause-attested g c = λ i x at.
    let within : i < length c.args.seats.now = slice_get_within c.args.seats.now i x at in
    c.loop-seat.invariant.attested i x (omega arith) at
