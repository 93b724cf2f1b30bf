use Rattle.dg_graph.proofs.Common.{ℕ, ◌<◌, IsInOrNotAdjacent}
use Rattle.dg_theory.specs.Multigraph.{entry}
use Rattle.dg_graph.proofs.connected.next_adjacent.Given as goal

abbrev pub invariant-loop-v : goal.invariant-loop-v
invariant-loop-v l = (u : ℕ) → u < l.v → IsInOrNotAdjacent l.size (entry l.table) l.reached u
