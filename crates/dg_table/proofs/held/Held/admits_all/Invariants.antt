use Rattle.dg_table.proofs.Common.{◌≡◌, ℕ, ◌<◌, slice_get, Some, SeatView, HoldsKnown}
use Rattle.dg_table.proofs.held.Held.admits_all.Given as goal

abbrev pub invariant-loop-seat : goal.invariant-loop-seat
invariant-loop-seat g l =
    (k : ℕ) (x : SeatView) → k < l.seat-index → slice_get l.seats k ≡ Some x → HoldsKnown l.self.entries x
