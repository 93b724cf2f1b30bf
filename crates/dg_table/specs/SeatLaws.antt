-- The laws of a seat's entries in a history.
--   SeatStartsEmpty == the empty history has no entry of a seat
--   OwnSeatsEntry  == one more entry of the seat is the last of its entries, its number being the
--                     history's length
--   OtherSeatsEntry == one more entry of another seat leaves the seat's entries
--   SeatEntriesStand == the entries of a seat stand in the history
--   AloneHasAll  == in a history of the seat 1 alone its entries are all, numbered from 0 on
use Rattle.std.specs.Prelude.{◌≡◌, ◌≢◌, ℕ, List, [], ◌∷◌, ◌++◌, length}
use Rattle.std.specs.List.{enumerate_from}
use Rattle.dg_table.specs.Common.{Entry, StandIn}
use Rattle.dg_table.specs.Seats.{AreOfSeats, entries_of}

abbrev pub SeatStartsEmpty : Type 0
SeatStartsEmpty = (s : ℕ) → entries_of s [] ≡ []

abbrev pub OwnSeatsEntry : Type 0
OwnSeatsEntry = (s : ℕ) (H : List Entry) (e : Entry) → e.seat ≡ s →
    entries_of s (H ++ e ∷ []) ≡ entries_of s H ++ (length H, e) ∷ []

abbrev pub OtherSeatsEntry : Type 0
OtherSeatsEntry = (s : ℕ) (H : List Entry) (e : Entry) → e.seat ≢ s →
    entries_of s (H ++ e ∷ []) ≡ entries_of s H

abbrev pub SeatEntriesStand : Type 0
SeatEntriesStand = (s : ℕ) (H : List Entry) → StandIn H (entries_of s H)

abbrev pub AloneHasAll : Type 0
AloneHasAll = (H : List Entry) → AreOfSeats 1 H → entries_of 1 H ≡ enumerate_from 0 H
