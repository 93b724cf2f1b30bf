use Rattle.dg_graph.proofs.Common.{ℕ, ◌<◌, ◌≤◌, nat_sum_below}
use Rattle.dg_theory.specs.Multigraph.{entry}
use Rattle.dg_graph.proofs.table.first_high_valence.Given as goal

abbrev pub invariant-loop-v : goal.invariant-loop-v
invariant-loop-v l = (u : ℕ) → u < l.v → nat_sum_below l.size (entry l.table u) ≤ 63
