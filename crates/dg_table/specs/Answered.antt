-- How a call is answered at a table.
--   Entering                             == a history, the receipt of the entry that comes after it, and
--                                           the seat that makes the entry, before and after
--   entering H r x y                     == of these
--   history_after e                      == the history with the entry at its end
--   IsEnteredAfter table request known e == the request is so entered: the history holds what the seat knew
--                                           before, and with the entry what it knows after. It was told of
--                                           the entries known. The one history is the history with the
--                                           entry, whose place is the last
--   IsAnsweredAfter table request e      == the call is so entered, and the seat is told of nothing more
--   IsAnswered table request r x y       == it is so answered after some history
use Rattle.std.specs.Prelude.{◌≡◌, ℕ, List, [], ◌∷◌, ◌++◌, length}
use Rattle.dg_table.specs.Common.{Replies, Entry, Request, TableData}
use Rattle.dg_table.specs.Histories.{IsHistoryOf}
use Rattle.dg_table.specs.Seats.{SeatView, HoldsKnown}

pub record Entering : Type 0 where
  pub history : List Entry
  pub receipt : ℕ × Entry
  pub before : SeatView
  pub after : SeatView

abbrev pub entering : List Entry → ℕ × Entry → SeatView → SeatView → Entering
entering H r x y = record { history = H; receipt = r; before = x; after = y }

abbrev pub history_after : Entering → List Entry
history_after e = e.history ++ e.receipt.1 ∷ []

pub record IsEnteredAfter (table : TableData) (request : Request) (known : List (ℕ × Entry))
    (e : Entering) : Type 0 where
  pub place : e.receipt.0 ≡ length e.history
  pub seat : e.receipt.1.seat ≡ e.before.number
  pub request' : e.receipt.1.request ≡ request
  pub reply : Replies table.start e.history request e.receipt.1.reply
  pub before : HoldsKnown e.history e.before
  pub history : IsHistoryOf table (history_after e)
  pub holds : HoldsKnown (history_after e) e.after
  pub number : e.after.number ≡ e.before.number
  pub mine : e.after.mine ≡ e.before.mine ++ e.receipt ∷ []
  pub told : e.after.told ≡ known
  pub prefix : e.after.prefix ≡ history_after e
  pub met : e.after.met ≡ history_after e

abbrev pub IsAnsweredAfter : TableData → Request → Entering → Type 0
IsAnsweredAfter table request e = IsEnteredAfter table request e.before.told e

abbrev pub IsAnswered : TableData → Request → ℕ × Entry → SeatView → SeatView → Type 0
IsAnswered table request r x y = (H : List Entry) × IsAnsweredAfter table request (entering H r x y)
