-- The start of a game, and when it is refused.
--   StartData                == a graph, a divisor on it, and the vertex q from which verdicts are computed
--   IsStart o                == all three are right and fit together
--   IsStartFault g d q fault == the graph g, the divisor d and the vertex q are refused, for this cause first
use Rattle.std.specs.Prelude.{◌≡◌, ℕ, ◌<◌, ◌≢◌, ◌≤◌}
use Rattle.dg_graph.specs.Graph.{IsGraph}
use Rattle.dg_theory.specs.Multigraph.{Multigraph}
use Rattle.dg_chips.specs.Vector.{Vector, IsDivisorVector}
use Rattle.dg_chips.specs.declared.start.StartFault.{StartFault}
use Rattle.dg_chips.specs.declared.start.StartFault.TheVariants.{Length, Vertex}

pub record StartData : Type 0 where
  pub graph : Multigraph
  pub divisor : Vector
  pub q : ℕ

pub record IsStart (o : StartData) : Type 0 where
  pub graph : IsGraph o.graph
  pub divisor : IsDivisorVector o.divisor
  pub size : o.divisor.size ≡ o.graph.size
  pub vertex : o.q < o.graph.size

abbrev pub IsStartFault : Multigraph → Vector → ℕ → StartFault → Type 0
IsStartFault g d q Length = d.size ≢ g.size
IsStartFault g d q Vertex = (d.size ≡ g.size) × (g.size ≤ q)
