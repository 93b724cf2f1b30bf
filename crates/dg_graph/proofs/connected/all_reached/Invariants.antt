use Rattle.dg_graph.proofs.Common.{◌≡◌, ℕ, ◌<◌, true, is_in}
use Rattle.dg_graph.proofs.connected.all_reached.Given as goal

abbrev pub invariant-loop-v : goal.invariant-loop-v
invariant-loop-v l = (u : ℕ) → u < l.v → is_in l.reached u ≡ true
