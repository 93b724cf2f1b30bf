use Rattle.dg_table.proofs.Common.{◌≡◌, ◌+◌, ◌≤◌, ℕ, [], length, slice_get, Some, vec_capacity, SeatView}
use Rattle.dg_table.proofs.seat.Seat.numbered.Given as goal

abbrev pub invariant-loop-i : goal.invariant-loop-i
invariant-loop-i g l = record {
  count : length l.seats.items ≡ l.i;
  fresh : (k : ℕ) (x : SeatView) → slice_get l.seats.items k ≡ Some x →
      (x.number ≡ k + 1) × (x.mine ≡ []) × (x.told ≡ []) × (x.prefix ≡ []) × (x.met ≡ []);
  room : l.count ≤ vec_capacity l.seats;
  names : l.enrolled.names ≡ l.fn.roll.names;
  tallies : l.enrolled.tallies ≡ l.fn.roll.tallies;
  claimed : l.enrolled.claimed ≡ l.i;
}
