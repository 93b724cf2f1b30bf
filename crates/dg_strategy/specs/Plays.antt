-- Playing as a choice says. A has what the choice may answer; x and y are a seat before and after.
-- Each history of a turn begins with the one that the seat found at the turn before, and that
-- turn's entry: so all turns are in one.
--   IsMoveRequest request         == the request is a move
--   AreNumberedMoves es           == each of the entries es is a move
--   IsTurnBy A table x r y        == after some history the seat x is answered with the receipt r, and is
--                                    then y; it asked for what A has there
--   IsMovedOrPastRange reply      == the move was made, or refused only because an amount would have left
--                                    the range
--   IsStrategyTurn A table x r y  == it is such a turn; the gift count stays, and a move is answered so
--   IsSettlerTurn A table x r y   == it is such a turn too; a move is a borrowing by a vertex in debt, and a
--                                    claim is won
--   is_settled ended              == whether it ended with a claim
--   Gains T x es y                == the seat gained the entries es, in order, each by a step of T, and was
--                                    told of nothing
--   IsPlayed T n x y ended        == in n turns, all moves, the seat gained n entries; or in fewer, by moves
--                                    and then by the claim of the receipt, those entries
--   IsStopped T table n x y fault == after fewer than n turns, all moves, the next one was refused with the
--                                    fault; after `OutOfMemory` the seat has met nothing since its last entry
--   Plays T table n x y result    == the seat has so played, or was so stopped
use Rattle.std.specs.Prelude.{◌≡◌, ℕ, ◌<◌, Bool, true, false, List, [], ◌∷◌, ◌++◌, length, Option, Some, None, ⊤, Result, Ok, Err}
use Rattle.std.specs.List.{FoldsTo}
use Rattle.dg_strategy.specs.Common.{Vector, Move, ShowsPosition, position_after, gifts_in, Entry, Range, Request, Reply, Moved, Refused, Won, entering, IsAnsweredAfter, RefusesCall, KeepsAfterRefusal, SeatView, Keeps, choice_request, Fault, TableData}
use Rattle.dg_rules.specs.declared.entry.Request.TheVariants as request
use Rattle.dg_strategy.specs.Choices.{Choosing, BorrowsInDebt}
use Rattle.dg_strategy.specs.declared.playing.Ended.{Ended}
use Rattle.dg_strategy.specs.declared.playing.Ended.TheVariants.{Settled, Turns}

abbrev pub IsMoveRequest : Request → Type 0
IsMoveRequest (request.Move m) = ⊤
IsMoveRequest request = ⊥

abbrev pub AreNumberedMoves : List (ℕ × Entry) → Type 0
AreNumberedMoves [] = ⊤
AreNumberedMoves (p ∷ es) = IsMoveRequest p.1.request × AreNumberedMoves es

pub record IsTurnBy (A : Choosing) (table : TableData) (x : SeatView) (r : ℕ × Entry)
    (y : SeatView) : Type 0 where
  pub history : List Entry
  pub amounts : Vector
  pub answer : Option Move
  pub shown : ShowsPosition (position_after table.start history) amounts
  pub chosen : A (position_after table.start history).graph amounts answer
  pub answered : IsAnsweredAfter table (choice_request answer) (entering history r x y)

abbrev pub IsMovedOrPastRange : Reply → Type 0
IsMovedOrPastRange (Moved d) = ⊤
IsMovedOrPastRange (Refused Range) = ⊤
IsMovedOrPastRange reply = ⊥

pub record IsStrategyTurn (A : Choosing) (table : TableData) (x : SeatView)
    (r : ℕ × Entry) (y : SeatView) : Type 0 where
  pub turn : IsTurnBy A table x r y
  pub gifts : gifts_in (turn.history ++ r.1 ∷ []) ≡ gifts_in turn.history
  pub moved : IsMoveRequest r.1.request → IsMovedOrPastRange r.1.reply

pub record IsSettlerTurn (A : Choosing) (table : TableData) (x : SeatView) (r : ℕ × Entry)
    (y : SeatView) : Type 0 where
  pub strategy : IsStrategyTurn A table x r y
  pub borrows : (m : Move) → strategy.turn.answer ≡ Some m → BorrowsInDebt strategy.turn.amounts m
  pub won : strategy.turn.answer ≡ None → r.1.reply ≡ Won

abbrev pub is_settled : {N : Type 0} → Ended N → Bool
is_settled (Settled r) = true
is_settled Turns = false

module _ (T : SeatView → ℕ × Entry → SeatView → Type 0) where
  pub record Gains (x : SeatView) (es : List (ℕ × Entry)) (y : SeatView) : Type 0 where
    pub last : SeatView
    pub steps : FoldsTo T x es last
    pub kept : Keeps last y
    pub number : y.number ≡ x.number
    pub mine : y.mine ≡ x.mine ++ es
    pub told : y.told ≡ x.told

  pub record IsPlayedOut (n : ℕ) (x y : SeatView) : Type 0 where
    pub entries : List (ℕ × Entry)
    pub gained : Gains x entries y
    pub moves : AreNumberedMoves entries
    pub count : length entries ≡ n

  pub record IsClaimed (n : ℕ) (x y : SeatView) (r : ℕ × Entry) : Type 0 where
    pub entries : List (ℕ × Entry)
    pub gained : Gains x (entries ++ r ∷ []) y
    pub moves : AreNumberedMoves entries
    pub few : length entries < n
    pub claim : r.1.request ≡ request.Claim

  abbrev pub IsPlayed : {N : Type 0} → ℕ → SeatView → SeatView → Ended N → Type 0
  IsPlayed n x y (Settled r) = IsClaimed n x y r
  IsPlayed n x y Turns = IsPlayedOut n x y

  pub record IsStopped (table : TableData) (n : ℕ) (x y : SeatView)
      (fault : Fault) : Type 0 where
    pub entries : List (ℕ × Entry)
    pub gained : Gains x entries y
    pub moves : AreNumberedMoves entries
    pub few : length entries < n
    pub kept : KeepsAfterRefusal fault gained.last y
    pub refused : RefusesCall table y fault

  abbrev pub Plays : {N : Type 0} → TableData → ℕ → SeatView → SeatView → Result (Ended N) Fault
      → Type 0
  Plays table n x y (Ok ended) = IsPlayed n x y ended
  Plays table n x y (Err fault) = IsStopped table n x y fault
