-- The seat at hand has the number, or it is one more of those that have another.
use Rattle.dg_table.proofs.Common.{◌≡◌, ◌<◌, arith, refl, sym, ap, ◌∙◌, inl, inr, length, slice_get, Some, cases_lt, slice_get_within, slice_get_read, same_Some, SeatView}
use Rattle.std.proofs.lemmas.Bool.{false≢true}
use Rattle.dg_table.proofs.held.has_seat.Goals as goal

pub returns-then-number : goal.returns-then-number
returns-then-number g c =
    let here = slice_get_read c.args.seats.now (length c.args.seats.now) c.loop-seat.seat-index c.seat-item.result refl
    (omega arith) c.seat-item.is in
    let same : c.seat-item.result.number ≡ c.args.number = cc (c.number.ensures, c.if-number.true) in
    (λ _. (c.loop-seat.seat-index, c.seat-item.result, here, same), λ _. refl)

pub loop-seat-preserved : goal.loop-seat-preserved
loop-seat-preserved g c = λ k x below at same. elim (cases_lt k c.loop-seat.seat-index) [
  | inl before ↦ c.loop-seat.invariant k x before at same
  | inr after ↦
      let here : k ≡ c.loop-seat.seat-index = omega arith in
      let read : slice_get c.args.seats.now c.loop-seat.seat-index ≡ Some c.seat-item.result =
      slice_get_read c.args.seats.now (length c.args.seats.now) c.loop-seat.seat-index c.seat-item.result refl
      (omega arith) c.seat-item.is in
      let one : c.seat-item.result ≡ x = same_Some _ _ (sym read ∙ ap (slice_get c.args.seats.now) (sym here) ∙ at) in
      c.if-number.false (c.number.ensures ∙ ap (λ (s : SeatView). s.number) one ∙ same)
]

pub returns : goal.returns
returns g c = (
  λ no. absurd (false≢true no),
  λ (k, x, at, same).
      let within : k < length c.args.seats.now = slice_get_within c.args.seats.now k x at in
      absurd (c.loop-seat.invariant k x (omega arith) at same),
)
