use Rattle.dg_table.proofs.Common.{◌≡◌, ℕ, ◌<◌, ◌≤◌, length, slice_get, Some, SeatView, HasMet}
use Rattle.dg_table.proofs.held.Held.meet_all.Given as goal

abbrev pub invariant-loop-seat : goal.invariant-loop-seat
invariant-loop-seat g l = record {
  count : length l.seats ≡ length l.fn.seats;
  met : (k : ℕ) (x y : SeatView) → k < l.seat-index → slice_get l.fn.seats k ≡ Some x → slice_get l.seats k ≡ Some y
      → HasMet l.self.entries x y;
  left : (k : ℕ) → l.seat-index ≤ k → slice_get l.seats k ≡ slice_get l.fn.seats k;
}
