-- The greedy strategy (Corry and Perkinson, chapter 3: a vertex in debt borrows, until nobody is in
-- debt): here the least vertex in debt always borrows.
--   IsGreedyCall p request     == the request is for the borrowing by the least vertex in debt at the
--                                 position p; it is a claim if nobody is in debt there
--   AreGreedy o K H            == each of the entries H is of seat 1, and is so asked for, after the history
--                                 K and those before it
--   AreMoves H                 == each of the entries H is a move
--   EndsGame n H settled       == there are n entries, all moves; or, if it is settled, fewer moves than n,
--                                 and then a claim that is won
--   IsGreedyGame o n H settled == the history H from the start o is legal and greedy, and ends so
--   EndsTurn settled e         == the entry is a move; or, if it is settled, a claim that is won
--   IsGreedyTurn o H e settled == after the history H the entry e of seat 1 is so asked for and answered
--                                 rightly, and ends so
use Rattle.std.specs.Prelude.{◌≡◌, ℕ, ◌<◌, Bool, true, false, List, [], ◌∷◌, ◌++◌, length, Option, ⊤}
use Rattle.dg_strategy.specs.Common.{StartData, Vector, Move, Position, ShowsPosition, position_after, IsLegal, Replies, Entry, Request, Claim, Won, choice_request}
use Rattle.dg_strategy.specs.Choices.{IsGreedyMove}
use Rattle.dg_strategy.specs.Plays.{IsMoveRequest}

pub record IsGreedyCall (p : Position) (request : Request) : Type 0 where
  pub amounts : Vector
  pub shown : ShowsPosition p amounts
  pub answer : Option Move
  pub least : IsGreedyMove amounts answer
  pub asked : request ≡ choice_request answer

abbrev pub AreGreedy : StartData → List Entry → List Entry → Type 0
AreGreedy o K [] = ⊤
AreGreedy o K (e ∷ H) =
    (e.seat ≡ 1) × IsGreedyCall (position_after o K) e.request × AreGreedy o (K ++ e ∷ []) H

abbrev pub AreMoves : List Entry → Type 0
AreMoves [] = ⊤
AreMoves (e ∷ H) = IsMoveRequest e.request × AreMoves H

abbrev pub EndsGame : ℕ → List Entry → Bool → Type 0
EndsGame n H false = AreMoves H × (length H ≡ n)
EndsGame n H true = (moves : List Entry) × (claim : Entry) × (H ≡ moves ++ claim ∷ []) ×
    AreMoves moves × (length moves < n)
    × (claim.request ≡ Claim) × (claim.reply ≡ Won)

pub record IsGreedyGame (o : StartData) (n : ℕ) (H : List Entry) (settled : Bool) : Type 0 where
  pub legal : IsLegal o H
  pub greedy : AreGreedy o [] H
  pub ends : EndsGame n H settled

abbrev pub EndsTurn : Bool → Entry → Type 0
EndsTurn false e = IsMoveRequest e.request
EndsTurn true e = (e.request ≡ Claim) × (e.reply ≡ Won)

pub record IsGreedyTurn (o : StartData) (H : List Entry) (e : Entry) (settled : Bool) : Type 0 where
  pub seat : e.seat ≡ 1
  pub call : IsGreedyCall (position_after o H) e.request
  pub right : Replies o H e.request e.reply
  pub ends : EndsTurn settled e
