-- A fire on a graph: which vertices burn, and the heat of each: how many dollars it lacks to 127,
-- and how many edges join it to those that burn. No vertex has more than 63 edges, so who holds
-- more than 127 dollars burns as who holds 127.
--   list_amounts held v == what v holds, if a list tells it
--   capped z            == the amount z, but 0 for a debt and 64 for more than 64: as no vertex has more than
--                          63 edges, it burns with one exactly if it burns with the other
--   AreCapped n D l     == l are the amounts D of n vertices, capped
--   heat x v            == the heat of v
--   burns n x v         == v burns: it is one of n vertices and not one of those that do not
--   IsUnlit n l x       == those that do not burn are below n, none of n vertices burns, and the heat of each
--                          is what it lacks to 127 dollars
--   IsBurntOut x        == no vertex that does not burn has a heat above 127
--   IsNextBurnt x v     == v is the least vertex that does not burn and has a heat above 127
--   IsFire g l x        == those that do not burn are vertices of the graph, and the heat of each vertex is
--                          what it lacks to 127 dollars, if it holds what l tells, and its edges to those
--                          that burn
use Rattle.std.specs.Prelude.{◌≡◌, ℕ, ◌+◌, ◌-◌, ◌<◌, ◌≤◌, ◌&&◌, min, nat_lt, not, Bool, true, false, List, ℤ, pos, negsuc, slice_index}
use Rattle.dg_graph.specs.Sets.{in_set}
use Rattle.dg_theory.specs.Sets.{IsVertexSet}
use Rattle.dg_graph.specs.declared.graph.TheConstants.{MAX_VERTICES}
use Rattle.dg_theory.specs.Burning.{edges_into}
use Rattle.dg_theory.specs.Firing.{Amounts}
use Rattle.dg_theory.specs.Multigraph.{Multigraph}
use Rattle.dg_burn.specs.declared.fire.Fire.{Fire}

abbrev pub list_amounts : List ℕ → Amounts
list_amounts held v = pos (slice_index held v)

abbrev pub capped : ℤ → ℕ
capped (pos n) = min 64 n
capped (negsuc n) = 0

abbrev pub AreCapped : ℕ → Amounts → List ℕ → Type 0
AreCapped n D held = (v : ℕ) → v < n → slice_index held v ≡ capped (D v)

abbrev pub heat : Fire → ℕ → ℕ
heat x v = slice_index x.heat v

abbrev pub burns : ℕ → Fire → ℕ → Bool
burns n x v = nat_lt v n && not (in_set x.left v)

pub record IsUnlit (n : ℕ) (l : List ℕ) (x : Fire) : Type 0 where
  pub inside : IsVertexSet n (in_set x.left)
  pub none_burns : (v : ℕ) → burns n x v ≡ false
  pub cold : (v : ℕ) → v < MAX_VERTICES → heat x v ≡ 127 - slice_index l v

abbrev pub IsBurntOut : Fire → Type 0
IsBurntOut x = (v : ℕ) → v < MAX_VERTICES → in_set x.left v ≡ true → heat x v ≤ 127

pub record IsNextBurnt (x : Fire) (v : ℕ) : Type 0 where
  pub few : v < MAX_VERTICES
  pub new : in_set x.left v ≡ true
  pub burns : 127 < heat x v
  pub least : (u : ℕ) → u < v → in_set x.left u ≡ true → heat x u ≤ 127

pub record IsFire (g : Multigraph) (l : List ℕ) (x : Fire) : Type 0 where
  pub inside : IsVertexSet g.size (in_set x.left)
  pub heats : (v : ℕ) → v < MAX_VERTICES →
      heat x v ≡ (127 - slice_index l v) + edges_into g (burns g.size x) v
