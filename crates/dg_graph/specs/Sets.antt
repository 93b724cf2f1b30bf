-- Sets of vertices as numbers: a number stands for the set of the places at which its bits are set.
--   in_set m v       == v is in the set that the number m stands for: bit v of m is set
--   IsLeastIn S v == v is the least vertex of S
--   AreTwinSets g l == for each vertex v of g, the list l has at v the set of the other vertices that are twins
--                       of v
use Rattle.std.specs.Prelude.{◌≡◌, ◌≢◌, ℕ, ◌<◌, ◌==◌, ◌↔◌, Bool, true, false, List, slice_index}
use Rattle.std.specs.Int.{bit_at}
use Rattle.dg_theory.specs.Multigraph.{Multigraph}
use Rattle.dg_theory.specs.Twins.{AreTwins}
use Rattle.dg_graph.specs.declared.graph.TheConstants.{MAX_VERTICES}

unfoldable pub in_set : ℕ → ℕ → Bool
in_set m v = bit_at m v == 1

pub record IsLeastIn (S : ℕ → Bool) (v : ℕ) : Type 0 where
  pub few : v < MAX_VERTICES
  pub here : S v ≡ true
  pub least : (u : ℕ) → u < v → S u ≡ false

abbrev pub AreTwinSets : Multigraph → List ℕ → Type 0
AreTwinSets g l = (v u : ℕ) → v < g.size →
    (in_set (slice_index l v) u ≡ true ↔ ((u < g.size) × (u ≢ v) × AreTwins g v u))
