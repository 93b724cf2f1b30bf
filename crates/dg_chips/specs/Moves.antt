-- Moves (Corry and Perkinson, chapters 1 and 2), and what an accepted one leaves.
--   move_script m            == the script of the move: 1 or -1 at the vertex, 1 on the set, or the script given
--   NamesNoVertex n m        == the move names a number that is none of the n vertices
--   FiresEmptySet m          == the move fires the empty set
--   HasOtherSize n m         == the move is a script for another number of vertices
--   IsApplicableMove n m     == the move names vertices alone, fires no empty set, and is no script of another size
--   IsAfterMove g D m d      == the divisor d holds the amounts after the move m on D, so all are in range
--   IsAfterLending g D v x d == d holds the amounts after v has lent x times, all of them in range
-- To fire the empty set would change nothing; on a table it is refused, since it is no move.
use Rattle.std.specs.Prelude.{◌≡◌, ◌≢◌, ℕ, ◌<◌, ◌≤◌, true, pos, negsuc, ℤ}
use Rattle.dg_graph.specs.Sets.{in_set}
use Rattle.dg_theory.specs.Sets.{IsVertexSet}
use Rattle.dg_theory.specs.Firing.{Amounts, only_at, indicator, fired}
use Rattle.dg_theory.specs.Multigraph.{Multigraph}
use Rattle.dg_chips.specs.Vector.{Vector, at, IsDivisorVector}
use Rattle.dg_chips.specs.declared.moves.Move.{Move}
use Rattle.dg_chips.specs.declared.moves.Move.TheVariants.{Lend, Borrow, Fire, Script}

abbrev pub move_script : Move → Amounts
move_script (Lend v) = only_at v (pos 1)
move_script (Borrow v) = only_at v (negsuc 0)
move_script (Fire m) = indicator (in_set m)
move_script (Script s) = at s

abbrev pub NamesNoVertex : ℕ → Move → Type 0
NamesNoVertex n (Lend v) = n ≤ v
NamesNoVertex n (Borrow v) = n ≤ v
NamesNoVertex n (Fire m) = (v : ℕ) × (n ≤ v) × (in_set m v ≡ true)
NamesNoVertex n (Script s) = ⊥

abbrev pub FiresEmptySet : Move → Type 0
FiresEmptySet (Lend v) = ⊥
FiresEmptySet (Borrow v) = ⊥
FiresEmptySet (Fire m) = m ≡ 0
FiresEmptySet (Script s) = ⊥

abbrev pub HasOtherSize : ℕ → Move → Type 0
HasOtherSize n (Lend v) = ⊥
HasOtherSize n (Borrow v) = ⊥
HasOtherSize n (Fire m) = ⊥
HasOtherSize n (Script s) = s.size ≢ n

abbrev pub IsApplicableMove : ℕ → Move → Type 0
IsApplicableMove n (Lend v) = v < n
IsApplicableMove n (Borrow v) = v < n
IsApplicableMove n (Fire m) = (m ≢ 0) × IsVertexSet n (in_set m)
IsApplicableMove n (Script s) = s.size ≡ n

pub record IsAfterMove (g : Multigraph) (D : Amounts) (m : Move) (d : Vector) : Type 0 where
  pub playable : IsApplicableMove g.size m
  pub size : d.size ≡ g.size
  pub divisor : IsDivisorVector d
  pub amounts : (v : ℕ) → v < g.size → at d v ≡ fired g D (move_script m) v

pub record IsAfterLending (g : Multigraph) (D : Amounts) (v : ℕ) (x : ℤ) (d : Vector) : Type 0 where
  pub vertex : v < g.size
  pub size : d.size ≡ g.size
  pub divisor : IsDivisorVector d
  pub amounts : (w : ℕ) → w < g.size → at d w ≡ fired g D (only_at v x) w
