use Rattle.dg_graph.proofs.Common.{◌≡◌, ℕ, ◌<◌, true, is_in}
use Rattle.std.proofs.Common.{slice_index}
use Rattle.dg_graph.proofs.connected.is_adjacent.Given as goal

abbrev pub invariant-loop-w : goal.invariant-loop-w
invariant-loop-w l = (u : ℕ) → u < l.w → 0 < slice_index l.row u → ¬ (is_in l.reached u ≡ true)
