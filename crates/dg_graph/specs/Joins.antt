-- When one more edge may be put between two vertices, and why it is refused: each case says that no
-- earlier one applies.
--   IsJoinable g u v        == u and v are two vertices of g, and fewer than 63 edges meet at each
--   IsJoinFault g u v fault == an edge more between u and v is refused with this fault
use Rattle.std.specs.Prelude.{◌≡◌, ◌≢◌, ℕ, ◌<◌, ◌≤◌, ◌⊎◌}
use Rattle.dg_theory.specs.Multigraph.{Multigraph, valence}
use Rattle.dg_graph.specs.declared.graph.TheConstants.{MAX_VALENCE}
use Rattle.dg_graph.specs.declared.fault.JoinFault.{JoinFault}
use Rattle.dg_graph.specs.declared.fault.JoinFault.TheVariants.{NoVertex, Loop, Valence}

pub record IsJoinable (g : Multigraph) (u v : ℕ) : Type 0 where
  pub first : u < g.size
  pub second : v < g.size
  pub different : u ≢ v
  pub first_room : valence g u < MAX_VALENCE
  pub second_room : valence g v < MAX_VALENCE

abbrev pub IsJoinFault : Multigraph → ℕ → ℕ → JoinFault → Type 0
IsJoinFault g u v NoVertex = (g.size ≤ u) ⊎ (g.size ≤ v)
IsJoinFault g u v Loop = (u < g.size) × (u ≡ v)
IsJoinFault g u v Valence =
    (u < g.size) × (v < g.size) × (u ≢ v) ×
    ((MAX_VALENCE ≤ valence g u) ⊎ (MAX_VALENCE ≤ valence g v))
