-- The search for the distances from vertex q, level after level. A vertex that is not reached yet
-- is at the level that is the number of vertices, which is more than any distance.
--   HasNearer g level v            == an edge joins v to a vertex of a lower level
--   AreLevelsReached g q k u level == the vertices nearer than k, and those of level k before vertex u, are
--                                     passed: their neighbours are reached
--   spread_level g v k level       == the levels after the neighbours of v that are not reached get level k
use Rattle.std.specs.Prelude.{if◌then◌else◌, ◌≡◌, ◌≢◌, ℕ, ◌+◌, ◌<◌, ◌≤◌, ◌&&◌, nat_eq, nat_lt}
use Rattle.dg_theory.specs.Multigraph.{Multigraph, edges_between}

abbrev pub HasNearer : Multigraph → (ℕ → ℕ) → ℕ → Type 0
HasNearer g level v = (w : ℕ) × (w < g.size) × (0 < edges_between g v w) × (level w < level v)

pub record AreLevelsReached (g : Multigraph) (q k u : ℕ) (level : ℕ → ℕ) : Type 0 where
  pub start : level q ≡ 0
  pub most : (v : ℕ) → v < g.size → level v ≤ g.size
  pub known : (v : ℕ) → v < g.size → level v < g.size → level v ≤ k + 1
  pub nearer : (v : ℕ) → v < g.size → v ≢ q → level v < g.size → HasNearer g level v
  pub close : (v w : ℕ) → v < g.size → w < g.size → 0 < edges_between g v w → level w < k →
      level v ≤ level w + 1
  pub passed : (v w : ℕ) → v < g.size → w < g.size → 0 < edges_between g v w → level w ≡ k → w < u →
      level v ≤ k + 1

abbrev pub spread_level : Multigraph → ℕ → ℕ → (ℕ → ℕ) → ℕ → ℕ
spread_level g v k level w =
    if nat_eq (level w) g.size && nat_lt 0 (edges_between g v w) then k else level w
