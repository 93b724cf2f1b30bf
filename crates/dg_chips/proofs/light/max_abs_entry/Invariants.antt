use Rattle.dg_chips.proofs.Common.{ℕ, ◌<◌, ◌≤◌, slice_index_or, unsigned_abs, pos}
use Rattle.dg_chips.proofs.light.max_abs_entry.Given as goal

abbrev pub invariant-loop-w : goal.invariant-loop-w
invariant-loop-w l = (u : ℕ) → u < l.w → unsigned_abs (slice_index_or l.lendings u (pos 0)) ≤ l.most
