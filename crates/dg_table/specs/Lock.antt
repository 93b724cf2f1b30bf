-- What the lock holds.
--   AreSeatCounts counts H        == at the place of each seat, from 0, is the number of its entries in H
--   IsUnderLock o n H game counts == the game and the counts are those of the legal history H, whose entries
--                                    are of the seats 1 to n
--   IsReady cap H x               == the history H has room for an entry of the seat x, which is admissible,
--                                    and holds what it knows
--   IsKeptLook o ps look          == the look that is kept is the last of the entries ps, and has the
--                                    vertices of the start o
--   tally_of x                    == what the roll has of the seat x: the length of the history that it found at its last call,
--                                    and the number of its calls
--   IsClaimOf names x ns i t      == a claim to the tally t at the place i of the tallies named ns is the seat x's, where the
--                                    table's tallies have these names
--   IsRollAfter H ts              == the tally of each seat is of a history no longer than H, and has the number of the seat's
--                                    entries in H
--   IsTallyShown x ts             == the tally of the seat x is among the tallies ts at its place
--   IsTallySigned x y ts ts'      == the tally of the seat x was among the tallies ts, and that of the seat y is there instead
--   seat_view x                   == what a contract sees of a seat, by its fields x
--   IsSeatState table x d look    == what the seat x keeps fits together: the history that it found is one of
--                                    the table, with the seat's entries as its own; so is the history that it
--                                    has met, which begins with that; the receipt set d is of the entries
--                                    that it was told of, and look is its last look
use Rattle.std.specs.Prelude.{◌≡◌, ℕ, ◌+◌, ◌<◌, ◌≤◌, ◌&&◌, nat_lt, List, length, Option, Some, slice_get, IfSome}
use Rattle.std.specs.List.{slice_index, slice_set}
use Rattle.std.specs.Vec.{vec_len, vec_capacity}
use Rattle.dg_table.specs.Common.{StartData, IsSeatNumber, IsLegal, GameState, LeadsTo, Entry, MAX_SEATS, MAX_ENTRIES, LookData, IsPrefixOf, TableData}
use Rattle.dg_table.specs.Histories.{IsHistoryOf}
use Rattle.dg_table.specs.Looks.{IsSizedLook, IsLastLook}
use Rattle.dg_table.specs.Seats.{SeatView, HoldsKnown, IsAdmissible, AreOfSeats, entries_of}
use Rattle.dg_table.specs.declared.seat.Seat.TheInside.{Inside}

abbrev pub AreSeatCounts : List ℕ → List Entry → Type 0
AreSeatCounts counts H =
    (s : ℕ) → s < MAX_SEATS → slice_index counts s ≡ length (entries_of (s + 1) H)

pub record IsUnderLock (o : StartData) (n : ℕ) (H : List Entry) (game : GameState)
    (counts : List ℕ) : Type 0 where
  pub legal : IsLegal o H
  pub game' : LeadsTo o H game
  pub seated : AreOfSeats n H
  pub counted : AreSeatCounts counts H
  pub places : length counts ≡ MAX_SEATS
  pub few : n ≤ MAX_SEATS

pub record IsReady (cap : ℕ) (H : List Entry) (x : SeatView) : Type 0 where
  pub room : length H < cap
  pub limit : cap ≤ MAX_ENTRIES
  pub seat : IsSeatNumber x.number
  pub admissible : IsAdmissible H x
  pub holds : HoldsKnown H x

pub record IsKeptLook (o : StartData) (ps : List (ℕ × Entry)) (look : Option LookData) : Type 0 where
  pub last : IsLastLook ps look
  pub vertices : IfSome look (IsSizedLook o.graph.size)

abbrev pub tally_of : SeatView → ℕ × ℕ
tally_of x = (length x.prefix, length x.mine)

pub record IsClaimOf (names : List ℕ) (x : SeatView) (ns : List ℕ) (i : ℕ) (t : ℕ × ℕ) : Type 0 where
  pub roll : ns ≡ names
  pub place : i + 1 ≡ x.number
  pub tally : t ≡ tally_of x

abbrev pub IsRollAfter : List Entry → List (ℕ × ℕ) → Type 0
IsRollAfter H ts = (i : ℕ) (t : ℕ × ℕ) → slice_get ts i ≡ Some t →
    (t.0 ≤ length H) × (t.1 ≡ length (entries_of (i + 1) H))

pub record IsTallyShown (x : SeatView) (ts : List (ℕ × ℕ)) : Type 0 where
  pub place : ℕ
  pub number : place + 1 ≡ x.number
  pub tally : slice_get ts place ≡ Some (tally_of x)

pub record IsTallySigned (x y : SeatView) (ts ts' : List (ℕ × ℕ)) : Type 0 where
  pub place : ℕ
  pub number : place + 1 ≡ x.number
  pub was : slice_get ts place ≡ Some (tally_of x)
  pub now : ts' ≡ slice_set ts place (tally_of y)

abbrev pub seat_view : {N : Type 0} → Inside N → SeatView
seat_view x = record {
  number = x.number;
  mine = x.mine.items;
  told = x.told.items;
  prefix = x.prefix;
  met = x.met;
  space = nat_lt (vec_len x.mine) (vec_capacity x.mine) && nat_lt (vec_len x.told) (vec_capacity x.told);
  hears = nat_lt (vec_len x.told) (vec_capacity x.told);
}

pub record IsSeatState (table : TableData) (x : SeatView) (d : List (ℕ × Entry))
    (look : Option LookData) : Type 0 where
  pub least : 1 ≤ x.number
  pub most : x.number ≤ table.seats
  pub found : IsHistoryOf table x.prefix
  pub own : entries_of x.number x.prefix ≡ x.mine
  pub met : IsHistoryOf table x.met
  pub since : IsPrefixOf x.prefix x.met
  pub told_said : d ≡ x.told
  pub look_kept : IsKeptLook table.start x.mine look
