use Rattle.dg_graph.proofs.Common.{◌≡◌, ◌≢◌, ℕ, ◌<◌, true}
use Rattle.dg_graph.specs.Sets.{in_set}
use Rattle.dg_theory.specs.Twins.{AreTwins}
use Rattle.dg_graph.proofs.graph.Graph.twins_of.Given as goal

abbrev pub invariant-loop-u : goal.invariant-loop-u
invariant-loop-u l = record {
  part : (w : ℕ) → in_set l.set w ≡ true → (w < l.u) × (w ≢ l.v) × AreTwins l.self l.v w;
  all : (w : ℕ) → w < l.u → w ≢ l.v → AreTwins l.self l.v w → in_set l.set w ≡ true;
}
