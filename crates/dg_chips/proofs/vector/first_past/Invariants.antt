use Rattle.dg_chips.proofs.Common.{ℕ, ◌<◌, ◌≤◌, slice_index_or, unsigned_abs, pos}
use Rattle.dg_chips.proofs.vector.first_past.Given as goal

abbrev pub invariant-loop-v : goal.invariant-loop-v
invariant-loop-v l = (u : ℕ) → u < l.v → unsigned_abs (slice_index_or l.numbers u (pos 0)) ≤ l.limit
