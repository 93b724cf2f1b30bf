-- The valences that a graph keeps beside its table.
--   valences_of g   == how many edges meet at each of 16 vertices, 0 past the size
--   HasValences g l == g is within the limits of a graph, and l are its valences
use Rattle.std.specs.Prelude.{◌≡◌, ℕ, List, map}
use Rattle.std.specs.List.{range_with_len}
use Rattle.dg_theory.specs.Multigraph.{Multigraph, valence}
use Rattle.dg_graph.specs.Graph.{IsGraph}

unfoldable pub valences_of : Multigraph → List ℕ
valences_of g = map (valence g) (range_with_len 0 16)

pub record HasValences (g : Multigraph) (l : List ℕ) : Type 0 where
  pub graph : IsGraph g
  pub valences : l ≡ valences_of g
