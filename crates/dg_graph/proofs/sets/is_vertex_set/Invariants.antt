use Rattle.dg_graph.proofs.Common.{◌≡◌, ℕ, ◌<◌, ◌≤◌, false}
use Rattle.dg_graph.specs.Sets.{in_set}
use Rattle.dg_graph.proofs.sets.is_vertex_set.Given as goal

abbrev pub invariant-loop-v : goal.invariant-loop-v
invariant-loop-v l = (u : ℕ) → l.size ≤ u → u < l.v → in_set l.set u ≡ false
