-- The search for the vertices that chains of edges join to vertex 0.
--   is_in set v                 == v is in the set, which is a list of tests
--   IsAdjacentTo n row set      == an edge of the row leads to a vertex in the set
--   IsInOrNotAdjacent n e set u == u is in the set, or no edge joins it to the set
--   IsPairwiseConnected n e     == every two vertices are joined by a chain of edges
--   HasUnreachable n e          == some vertex is joined to vertex 0 by none
use Rattle.std.specs.Prelude.{◌≡◌, ℕ, ◌<◌, Bool, true, false, List}
use Rattle.std.specs.List.{slice_index_or}
use Rattle.dg_theory.specs.Multigraph.{IsConnectedTo}

abbrev pub is_in : List Bool → ℕ → Bool
is_in set v = slice_index_or set v false

abbrev pub IsAdjacentTo : ℕ → (ℕ → ℕ) → List Bool → Type 0
IsAdjacentTo n row set = (w : ℕ) × (w < n) × (0 < row w) × (is_in set w ≡ true)

abbrev pub IsInOrNotAdjacent : ℕ → (ℕ → ℕ → ℕ) → List Bool → ℕ → Type 0
IsInOrNotAdjacent n e set u = is_in set u ≡ false → ¬ IsAdjacentTo n (e u) set

abbrev pub IsPairwiseConnected : ℕ → (ℕ → ℕ → ℕ) → Type 0
IsPairwiseConnected n e = (u v : ℕ) → u < n → v < n → IsConnectedTo n e u v

abbrev pub HasUnreachable : ℕ → (ℕ → ℕ → ℕ) → Type 0
HasUnreachable n e = (v : ℕ) × (v < n) × ¬ IsConnectedTo n e 0 v
