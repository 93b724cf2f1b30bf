use Rattle.dg_chips.proofs.Common.{◌≡◌, slice_index_or, pos, ◌*ℤ◌, sum_below, edges_between}
use Rattle.dg_chips.proofs.light.gain_i32.Given as goal

abbrev pub invariant-loop-w : goal.invariant-loop-w
invariant-loop-w l =
    l.sum ≡ sum_below l.w (λ u. pos (edges_between l.graph l.v u) *ℤ slice_index_or l.lendings u (pos 0))
