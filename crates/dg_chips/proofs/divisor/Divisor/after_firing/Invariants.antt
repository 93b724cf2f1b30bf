use Rattle.dg_chips.proofs.Common.{◌≡◌, ℕ, ◌<◌, ◌≤◌, length, MatchBool, slice_index_or, pos, fired, indicator, in_set, at, IsInRange, IsOutOfRange}
use Rattle.dg_chips.proofs.divisor.Divisor.after_firing.Given as goal

abbrev pub invariant-loop-w : goal.invariant-loop-w
invariant-loop-w l = record {
  size : length l.amounts ≡ 16;
  done : (u : ℕ) → u < l.w → slice_index_or l.amounts u (pos 0) ≡ fired l.graph (at l.self) (indicator (in_set l.set)) u;
  ahead : (u : ℕ) → l.w ≤ u → slice_index_or l.amounts u (pos 0) ≡ at l.self u;
  range : MatchBool l.fits
      (IsInRange l.w (fired l.graph (at l.self) (indicator (in_set l.set))))
      (IsOutOfRange l.w (fired l.graph (at l.self) (indicator (in_set l.set))));
}
