use Rattle.dg_table.proofs.Common.{ℕ, ◌≤◌, HasSeat}
use Rattle.dg_table.proofs.held.first_missing.Given as goal

abbrev pub invariant-loop-i : goal.invariant-loop-i
invariant-loop-i g l = (s : ℕ) → 1 ≤ s → s ≤ l.i → HasSeat l.seats s
