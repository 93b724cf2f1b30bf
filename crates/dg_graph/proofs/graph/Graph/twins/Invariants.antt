use Rattle.dg_graph.proofs.Common.{◌≡◌, ◌≢◌, ℕ, ◌<◌, true, length}
use Rattle.std.specs.Prelude.{slice_index, ◌↔◌}
use Rattle.dg_graph.specs.Sets.{in_set}
use Rattle.dg_theory.specs.Twins.{AreTwins}
use Rattle.dg_graph.proofs.graph.Graph.twins.Given as goal

abbrev pub invariant-loop-v : goal.invariant-loop-v
invariant-loop-v l = record {
  places : length l.sets ≡ 16;
  done : (v u : ℕ) → v < l.v →
      (in_set (slice_index l.sets v) u ≡ true ↔ ((u < l.self.size) × (u ≢ v) × AreTwins l.self v u));
}
