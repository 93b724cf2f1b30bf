-- What may be chosen at a position.
--   Choosing               == what a choice may answer at a graph and amounts: a move, or none, which is
--                             to claim
--   MayCallAnywhere pre    == what may be called so, may be at every graph and amounts of as many
--                             vertices
--   Chooses post g d m     == what so returns may give m, called at the graph g and the amounts d
--   GivesPlayable post     == each move that it gives there can be made
--   ChoosesBorrowings post == each move that it gives there is a borrowing by a vertex in debt
--   GivesClaims post       == it gives none there only if nobody is in debt
--   IsInDebt d v           == the vertex v is in debt
--   IsLeastInDebt d v      == v is the least vertex in debt
--   BorrowsInDebt d m      == the move m is a borrowing by a vertex in debt
--   IsGreedyMove d m       == m is the borrowing by the least vertex in debt, and no move if nobody is in
--                             debt
use Rattle.std.specs.Prelude.{◌≡◌, ℕ, ◌<◌, pos, ◌≤ℤ◌, ◌<ℤ◌, Option, Some, None}
use Rattle.std.specs.Borrow.{Bor}
use Rattle.dg_strategy.specs.Common.{Multigraph, IsEffective, IsGraph, Vector, at, IsApplicableMove, Move, Borrow}

abbrev pub Choosing : Type 1
Choosing = Multigraph → Vector → Option Move → Type 0

abbrev pub MayCallAnywhere : (Bor Multigraph → Bor Vector → Type 0) → Type 0
MayCallAnywhere pre = (p : Bor Multigraph) (q : Bor Vector) → q.now.size ≡ p.now.size → pre p q

abbrev pub Chooses : (Bor Multigraph → Bor Vector → Option Move → Type 0) → Choosing
Chooses post g d m = (p : Bor Multigraph) × (q : Bor Vector) × (p.now ≡ g) × (q.now ≡ d) × post p q m

abbrev pub GivesPlayable : (Bor Multigraph → Bor Vector → Option Move → Type 0) → Type 0
GivesPlayable post = (p : Bor Multigraph) (q : Bor Vector) (m : Move) → IsGraph p.now →
    q.now.size ≡ p.now.size → post p q (Some m) → IsApplicableMove p.now.size m

abbrev pub IsInDebt : Vector → ℕ → Type 0
IsInDebt d v = (v < d.size) × (at d v <ℤ pos 0)

pub record IsLeastInDebt (d : Vector) (v : ℕ) : Type 0 where
  pub debt : IsInDebt d v
  pub least : (w : ℕ) → w < v → pos 0 ≤ℤ at d w

abbrev pub BorrowsInDebt : Vector → Move → Type 0
BorrowsInDebt d (Borrow v) = IsInDebt d v
BorrowsInDebt d m = ⊥

abbrev pub ChoosesBorrowings : (Bor Multigraph → Bor Vector → Option Move → Type 0) → Type 0
ChoosesBorrowings post = (p : Bor Multigraph) (q : Bor Vector) (m : Move) → IsGraph p.now →
    q.now.size ≡ p.now.size → post p q (Some m) → BorrowsInDebt q.now m

abbrev pub GivesClaims : (Bor Multigraph → Bor Vector → Option Move → Type 0) → Type 0
GivesClaims post = (p : Bor Multigraph) (q : Bor Vector) → IsGraph p.now → q.now.size ≡ p.now.size →
    post p q None → IsEffective p.now.size (at q.now)

abbrev pub IsGreedyMove : Vector → Option Move → Type 0
IsGreedyMove d (Some (Borrow v)) = IsLeastInDebt d v
IsGreedyMove d (Some m) = ⊥
IsGreedyMove d None = IsEffective d.size (at d)
