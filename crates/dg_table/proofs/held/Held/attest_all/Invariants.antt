use Rattle.dg_table.proofs.Common.{◌≡◌, ℕ, ◌<◌, slice_get, Some, SeatView, Attests}
use Rattle.dg_table.proofs.held.Held.attest_all.Given as goal

abbrev pub invariant-loop-seat : goal.invariant-loop-seat
invariant-loop-seat g l = record {
  held : l.self ≡ l.fn.self;
  seats : l.seats ≡ l.fn.seats;
  attested : (k : ℕ) (x : SeatView) → k < l.seat-index → slice_get l.fn.seats k ≡ Some x → Attests l.fn.self.entries x;
}
