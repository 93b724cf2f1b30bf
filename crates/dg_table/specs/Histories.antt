-- Histories of a table.
--   IsHistoryOf table H == the history H is legal from the table's start, has at most as many entries as
--                          it may have, and calls of the table's seats alone
--   HasPrefix table x   == the history that the seat x found at its last call is such a history, and the
--                          seat's entries in it are just those of its own calls, each once and in order;
--                          before its first call it is empty. The longest history that the seat has met
--                          begins with it, and is such a history too
use Rattle.std.specs.Prelude.{◌≡◌, ◌≤◌, List, length}
use Rattle.dg_table.specs.Common.{IsPrefixOf, IsLegal, Entry, TableData}
use Rattle.dg_table.specs.Seats.{SeatView, AreOfSeats, entries_of}

pub record IsHistoryOf (table : TableData) (H : List Entry) : Type 0 where
  pub legal : IsLegal table.start H
  pub few : length H ≤ table.capacity
  pub seated : AreOfSeats table.seats H

pub record HasPrefix (table : TableData) (x : SeatView) : Type 0 where
  pub history : IsHistoryOf table x.prefix
  pub own : entries_of x.number x.prefix ≡ x.mine
  pub met : IsHistoryOf table x.met
  pub since : IsPrefixOf x.prefix x.met
