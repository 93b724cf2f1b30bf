use Rattle.dg_table.proofs.Common.{◌≡◌, ◌≢◌, ◌<◌, arith, refl, sym, ap, ◌∙◌, inl, inr, length, slice_get, Some, slice_set, cases_lt, slice_get_within, slice_get_read, same_Some, SeatView}
use Rattle.dg_table.proofs.Placed.{get_set, get_other, length_set}
use Rattle.dg_table.proofs.held.Held.meet_all.Goals as goal

pub loop-seat-preserved : goal.loop-seat-preserved
loop-seat-preserved g c =
    let i = c.loop-seat.seat-index in
    let seats = c.loop-seat.seats in
    let met : SeatView = c.meet.new.seat in
    let kept = c.loop-seat.invariant in
    let read : slice_get seats i ≡ Some c.seat-item.result =
    slice_get_read seats (length seats) i c.seat-item.result refl (omega arith) c.seat-item.is in
    record {
      count = length_set seats i met ∙ kept.count;
      met = λ k x y below was is. elim (cases_lt k i) [
        | inl before ↦
            let other : k ≢ i = omega arith in
            kept.met k x y before was (sym (get_other seats i k met other) ∙ is)
        | inr after ↦
            let here : k ≡ i = omega arith in
            let old : c.seat-item.result ≡ x =
            same_Some _ _ (sym read ∙ kept.left i (omega arith) ∙ ap (slice_get c.args.seats.now) (sym here) ∙ was) in
            let new : met ≡ y =
            same_Some _ _ (sym (get_set seats i c.seat-item.result met read)
            ∙ ap (slice_get (slice_set seats i met)) (sym here) ∙ is) in
            rw (← old, ← new, c.seat-item.is) c.meet.ensures
      ];
      left = λ k after.
          let other : k ≢ i = omega arith in
          get_other seats i k met other ∙ kept.left k (omega arith);
    }

pub returns : goal.returns
returns g c =
    let kept = c.loop-seat.invariant in
    record {
      count = kept.count;
      each = λ i x y was is.
          let within : i < length c.args.seats.now = slice_get_within c.args.seats.now i x was in
          kept.met i x y (omega (arith, kept.count)) was is;
    }
