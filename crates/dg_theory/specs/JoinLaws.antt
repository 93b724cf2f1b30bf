-- The laws of one edge more, for every multigraph. A function of src/laws.rt promises them.
--   JoinAddsEdge       == between u and v there is one edge more, and between all others there are as many as
--                         before
--   JoinedIsMultigraph == with an edge between two different vertices a multigraph is one
--   ValenceGrows       == that edge meets its two vertices, and no other
--   EdgeKeepsSize      == an edge more leaves the number of vertices
use Rattle.std.specs.Prelude.{◌≡◌, ◌≢◌, ℕ, ◌+◌, ◌<◌}
use Rattle.dg_theory.specs.Multigraph.{Multigraph, IsMultigraph, edges_between, valence}
use Rattle.dg_theory.specs.Joins.{with_edge, pair_indicator, endpoint_indicator}

abbrev pub JoinAddsEdge : Type 0
JoinAddsEdge = (g : Multigraph) (u v : ℕ) → u ≢ v → (a b : ℕ) →
    edges_between (with_edge g u v) a b ≡ edges_between g a b + pair_indicator u v a b

abbrev pub JoinedIsMultigraph : Type 0
JoinedIsMultigraph =
    (g : Multigraph) (u v : ℕ) → IsMultigraph g → u < g.size → v < g.size → u ≢ v →
    IsMultigraph (with_edge g u v)

abbrev pub ValenceGrows : Type 0
ValenceGrows = (g : Multigraph) (u v : ℕ) → u < g.size → v < g.size → u ≢ v → (w : ℕ) →
    valence (with_edge g u v) w ≡ valence g w + endpoint_indicator u v w

abbrev pub EdgeKeepsSize : Type 0
EdgeKeepsSize = (g : Multigraph) (u v : ℕ) → (with_edge g u v).size ≡ g.size
