use Rattle.dg_graph.proofs.Common.{◌≡◌, ◌≢◌, ℕ, ◌<◌, edges_between}
use Rattle.dg_graph.proofs.graph.Graph.are_twins.Given as goal

abbrev pub invariant-loop-w : goal.invariant-loop-w
invariant-loop-w l = (x : ℕ) → x < l.w → x ≢ l.u → x ≢ l.v → edges_between l.self l.u x ≡ edges_between l.self l.v x
