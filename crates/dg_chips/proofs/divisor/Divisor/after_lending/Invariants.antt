use Rattle.dg_chips.proofs.Common.{◌≡◌, ℕ, ◌<◌, ◌≤◌, length, MatchBool, slice_index_or, unsigned_abs, pos, ◌+ℤ◌, ◌*ℤ◌, edges_between, fired, only_at, at, IsInRange, IsOutOfRange}
use Rattle.dg_chips.proofs.divisor.Divisor.after_lending.Given as goal

abbrev pub invariant-loop-w : goal.invariant-loop-w
invariant-loop-w l = record {
  size : length l.amounts ≡ 16;
  done : (u : ℕ) → u < l.w → slice_index_or l.amounts u (pos 0) ≡ fired l.graph (at l.self) (only_at l.v l.times) u;
  range : MatchBool l.fits
      (IsInRange l.w (fired l.graph (at l.self) (only_at l.v l.times)))
      (IsOutOfRange l.w (fired l.graph (at l.self) (only_at l.v l.times)));
  ahead : (u : ℕ) → l.w ≤ u →
      slice_index_or l.amounts u (pos 0) +ℤ pos (edges_between l.graph l.v u) *ℤ l.times
      ≡ fired l.graph (at l.self) (only_at l.v l.times) u;
  small : (u : ℕ) → l.w ≤ u → unsigned_abs (slice_index_or l.amounts u (pos 0)) ≤ 1000255;
}
