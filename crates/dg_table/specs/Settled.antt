-- How a finding on an older look is entered.
--   IsSettledReply p q f reply       == the finding f is entered for the position p: a verdict that is
--                                       right there from the vertex q, whose script leads from the
--                                       amounts of p to the divisor that was found; or a rank test
--                                       that is right there
--   IsSettledAfter table look f e    == the finding f on the look is so entered, and the seat was told
--                                       of the look
--   IsSettled table look f r x y     == it is so entered after some history
--   IsStaleAfter table look asks e   == the question on the look is so entered, as stale, because
--                                       gifts were accepted since the look; and the seat was told of
--                                       the look
--   IsStale table look asks r x y    == it is so entered after some history
--   IsNotStaleAfter table look H x y == after the history H, which holds what the seat knew, a
--                                       question on the look is not stale: no gift, levy or join was
--                                       accepted since; the seat has met H, and knows what it knew
--   IsNotStale table look x y        == so it is after the history that the seat has met then
use Rattle.std.specs.Prelude.{◌≡◌, ◌≢◌, ◌↔◌, ℕ, List, [], ◌∷◌, ◌++◌, take, slice_get, Some}
use Rattle.dg_table.specs.Common.{FiresTo, at, IsRightVerdict, IsRightRank, Position, position_after, gifts_in, request_for_finding, request_for_question, finding_degree, KeepsFinding, Entry, Reply, Verdict, Rank, Stale, Finding, Judged, Ranked, Question, TableData}
use Rattle.dg_table.specs.Answered.{Entering, entering, IsEnteredAfter}
use Rattle.dg_table.specs.Histories.{IsHistoryOf}
use Rattle.dg_table.specs.Seats.{SeatView, HoldsKnown, Keeps}

abbrev pub IsSettledReply : Position → ℕ → Finding → Reply → Type 0
IsSettledReply p q (Judged v) (Verdict w) =
    IsRightVerdict p.graph q p.amounts w × FiresTo p.graph (at w.script) p.amounts (at v.reduced)
IsSettledReply p q (Ranked v) (Rank w) = IsRightRank p.graph p.amounts (finding_degree v) w
IsSettledReply p q f reply = ⊥

pub record IsSettledAfter (table : TableData) (look : ℕ × Entry) (f : Finding) (e : Entering)
    : Type 0 where
  pub entered : IsEnteredAfter table (request_for_finding look.0 f) (e.before.told ++ look ∷ []) e
  pub stands : slice_get e.history look.0 ≡ Some look.1
  pub kept : KeepsFinding f e.receipt.1.reply
  -- gifts were accepted since the look
  pub stale : (gifts_in (take look.0 e.history) ≢ gifts_in e.history)
      ↔ (e.receipt.1.reply ≡ Stale (gifts_in e.history))
  -- no gift was
  pub carried : gifts_in (take look.0 e.history) ≡ gifts_in e.history →
      IsSettledReply (position_after table.start e.history) table.start.q f e.receipt.1.reply

abbrev pub IsSettled : TableData → ℕ × Entry → Finding → ℕ × Entry → SeatView → SeatView → Type 0
IsSettled table look f r x y = (H : List Entry) × IsSettledAfter table look f (entering H r x y)

pub record IsStaleAfter (table : TableData) (look : ℕ × Entry) (asks : Question) (e : Entering)
    : Type 0 where
  pub entered : IsEnteredAfter table (request_for_question look.0 asks) (e.before.told ++ look ∷ []) e
  pub stands : slice_get e.history look.0 ≡ Some look.1
  pub since : gifts_in (take look.0 e.history) ≢ gifts_in e.history
  pub stale : e.receipt.1.reply ≡ Stale (gifts_in e.history)

abbrev pub IsStale : TableData → ℕ × Entry → Question → ℕ × Entry → SeatView → SeatView → Type 0
IsStale table look asks r x y = (H : List Entry) × IsStaleAfter table look asks (entering H r x y)

pub record IsNotStaleAfter (table : TableData) (look : ℕ × Entry) (H : List Entry) (x y : SeatView)
    : Type 0 where
  pub history : IsHistoryOf table H
  pub holds : HoldsKnown H x
  pub stands : slice_get H look.0 ≡ Some look.1
  pub since : gifts_in (take look.0 H) ≡ gifts_in H
  pub kept : Keeps x y
  pub met : y.met ≡ H

abbrev pub IsNotStale : TableData → ℕ × Entry → SeatView → SeatView → Type 0
IsNotStale table look x y = IsNotStaleAfter table look y.met x y
