-- The distance of the vertices of a connected multigraph from a vertex q.
--   IsDistance g q level == level v is the distance of v from q: q is at 0; every other vertex has
--                           a neighbour that is nearer by one, and so is not at 0; the distances of
--                           two neighbours differ by at most one; and every distance is less than
--                           the number of vertices
use Rattle.std.specs.Prelude.{◌≡◌, ◌≢◌, ℕ, ◌+◌, ◌<◌, ◌≤◌}
use Rattle.dg_theory.specs.Multigraph.{Multigraph, edges_between}

pub record IsDistance (g : Multigraph) (q : ℕ) (level : ℕ → ℕ) : Type 0 where
  pub start : level q ≡ 0
  pub few : (v : ℕ) → v < g.size → level v < g.size
  pub stepped : (v : ℕ) → v < g.size → v ≢ q → (u : ℕ) × (u < g.size) × (0 < edges_between g v u) ×
      (level u + 1 ≡ level v)
  pub close : (v w : ℕ) → v < g.size → w < g.size → 0 < edges_between g v w → level v ≤ level w + 1
