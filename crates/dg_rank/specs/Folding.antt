-- Leaves that are folded one after another into their only neighbours. Whatever edges a leaf has to its neighbour are a
-- bridge, as thick as they are many: to fire all that is folded into the leaf moves dollars along these alone.
--   worth W v t        == what the row of v in the table W has at place t: the least that v is left with once t dollars are
--                         lost there and in what is folded into it
--   IsOnlyIn S v       == v is the only vertex of the set S
--   IsLeaf g L u r     == of the vertices of the set L, u has edges to r alone
--   IsFoldedBy g L top == into which vertex of L, which are left, each vertex is folded, top tells: an edge leads from one
--                         such part to another only between the vertices that are left
--   AreFolded g L      == each vertex is folded into one of L
--   folded_gain g L s x == what x gains by the script s along its edges to vertices outside of L
--   IsSpared g L d     == with some dollars outside of L, from which nobody of L can draw anything while nobody there is in debt,
--                         d more dollars are enough for the genus
--   IsRounded m x y    == y is a multiple of m, and at most x
--   IsJoined m k R U J == the row J is at most that of a vertex with the row R, once a leaf with the row U is folded into it
--                         along m edges, for up to k dollars
--   IsBorne g L W k D  == nobody outside L is in debt by D, and each vertex of L holds at least its worth once a share of
--                         at most k dollars is lost
--   RowsWin g L W k    == each such D is winnable
--   IsHeldByRows g L W x == x is small, and each vertex of L has its worth there while nothing is lost, and nobody else anything
--   ArePaidByRows L W k P == by the table P each vertex of L pays what its worth becomes less by, and nobody else anything
use Rattle.std.specs.Prelude.{if◌then◌else◌, ◌≡◌, ℕ, ◌-◌, ◌<◌, ◌≤◌, ◌⊎◌, Bool, true, false, ℤ, pos, ◌+ℤ◌, ◌-ℤ◌, ◌*ℤ◌, ◌≤ℤ◌, List, []}
use Rattle.std.specs.List.{slice_index_or}
use Rattle.std.specs.Int.RustNames.{unsigned_abs}
use Rattle.dg_chips.specs.Vector.{Vector, at}
use Rattle.dg_graph.specs.declared.graph.TheConstants.{MAX_VERTICES}
use Rattle.dg_rank.specs.Losses.{HasSmallDegree}
use Rattle.dg_rank.specs.Prices.{price}
use Rattle.dg_rank.specs.declared.prices.Prices.{Prices}
use Rattle.dg_theory.specs.Firing.{Amounts, degree, gain, IsEffective}
use Rattle.dg_theory.specs.Multigraph.{Multigraph, edges_between, genus}
use Rattle.dg_theory.specs.Sums.{sum_below}
use Rattle.dg_theory.specs.Play.{IsWinnable}

abbrev pub worth : List (List ℤ) → ℕ → ℕ → ℤ
worth W v t = slice_index_or (slice_index_or W v []) t (pos 0)

pub record IsOnlyIn (S : ℕ → Bool) (v : ℕ) : Type 0 where
  pub here : S v ≡ true
  pub only : (w : ℕ) → S w ≡ true → w ≡ v

pub record IsLeaf (g : Multigraph) (L : ℕ → Bool) (u r : ℕ) : Type 0 where
  pub leaf : L u ≡ true
  pub parent : L r ≡ true
  pub joined : 0 < edges_between g u r
  pub alone : (w : ℕ) → L w ≡ true → 0 < edges_between g u w → w ≡ r

pub record IsFoldedBy (g : Multigraph) (L : ℕ → Bool) (top : ℕ → ℕ) : Type 0 where
  pub own : (v : ℕ) → L v ≡ true → top v ≡ v
  pub across : (v w : ℕ) → v < g.size → w < g.size → 0 < edges_between g v w →
      (top v ≡ top w) ⊎ ((L v ≡ true) × (L w ≡ true))

abbrev pub AreFolded : Multigraph → (ℕ → Bool) → Type 0
AreFolded g L = (top : ℕ → ℕ) × IsFoldedBy g L top

abbrev pub folded_gain : Multigraph → (ℕ → Bool) → Amounts → ℕ → ℤ
folded_gain g L s x = sum_below g.size (λ w. if L w then pos 0 else pos (edges_between g x w) *ℤ (s w -ℤ s x))

pub record IsSpared (g : Multigraph) (L : ℕ → Bool) (d : ℕ) : Type 0 where
  pub caps : Amounts
  pub none : (v : ℕ) → L v ≡ true → caps v ≡ pos 0
  pub total : genus g ≤ℤ (degree g.size caps +ℤ pos d)
  pub draws : (s : Amounts) → ((v : ℕ) → v < g.size → L v ≡ false → pos 0 ≤ℤ (caps v +ℤ gain g s v)) →
      (x : ℕ) → x < g.size → L x ≡ true → folded_gain g L s x ≤ℤ pos 0

pub record IsRounded (m : ℕ) (x y : ℤ) : Type 0 where
  pub rounds : ℤ
  pub is : y ≡ pos m *ℤ rounds
  pub most : y ≤ℤ x

abbrev pub IsJoined : ℕ → ℕ → List ℤ → List ℤ → List ℤ → Type 0
IsJoined m k R U J = (t b : ℕ) → t ≤ k → b ≤ t → (y : ℤ) × IsRounded m (slice_index_or U b (pos 0)) y
    × (slice_index_or J t (pos 0) ≤ℤ (slice_index_or R (t - b) (pos 0) +ℤ y))

pub record IsBorne (g : Multigraph) (L : ℕ → Bool) (W : List (List ℤ)) (k : ℕ) (D : Amounts) : Type 0 where
  pub lost : Amounts
  pub effective : IsEffective g.size lost
  pub few : degree g.size lost ≤ℤ pos k
  pub folded : (v : ℕ) → v < g.size → L v ≡ false → pos 0 ≤ℤ D v
  pub unfolded : (v : ℕ) → v < g.size → L v ≡ true → worth W v (unsigned_abs (lost v)) ≤ℤ D v

abbrev pub RowsWin : Multigraph → (ℕ → Bool) → List (List ℤ) → ℕ → Type 0
RowsWin g L W k = (D : Amounts) → IsBorne g L W k D → IsWinnable g D

pub record IsHeldByRows (g : Multigraph) (L : ℕ → Bool) (W : List (List ℤ)) (x : Vector) : Type 0 where
  pub size : x.size ≡ g.size
  pub effective : IsEffective g.size (at x)
  pub small : HasSmallDegree g.size (at x)
  pub unfolded : (v : ℕ) → v < g.size → L v ≡ true → at x v ≡ worth W v 0
  pub folded : (v : ℕ) → v < g.size → L v ≡ false → at x v ≡ pos 0

pub record ArePaidByRows (L : ℕ → Bool) (W : List (List ℤ)) (k : ℕ) (P : Prices) : Type 0 where
  pub unfolded : (v t : ℕ) → v < MAX_VERTICES → L v ≡ true → t ≤ k → pos (price P v t) ≡ worth W v 0 -ℤ worth W v t
  pub folded : (v t : ℕ) → v < MAX_VERTICES → L v ≡ false → t ≤ k → price P v t ≡ 0
