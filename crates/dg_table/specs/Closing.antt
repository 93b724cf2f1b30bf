-- Closing a table.
--   HasSeat xs s                 == the seat s is among the seats xs
--   AreAllSeats n xs             == each of the seats 1 to n is among the seats xs
--   HoldsAllSeats H xs           == the history H holds what each of the seats xs knows
--   AttestsAll H xs              == each of the seats xs is attested by the history H
--   IsAttested table xs H        == H is a history of the table, and attests each of the seats xs
--   AttestedIsUnique             == no two histories of a table attest seats among which are all of the table's
--   IsClosed table xs H          == H is a history of the table, and holds what each of the seats xs knows,
--                                   among which are all of the table's
--   AreAuditTotals table xs a    == what the audit a says of its history is so: the number of entries, the
--                                   gift count, and the graph and the amounts after it; and at each seat's
--                                   place, from 0, the number of its calls, and 0 past the table's seats;
--                                   together they are the number of entries
--   IsMissingSeat n xs s         == s is the least of the seats 1 to n that is not among xs
--   HasInadmissibleSeat H xs     == one of the seats xs is not admissible after H
--   RefusesClose H n xs s        == s is the least seat that is missing; or s is 0, none is missing, and one
--                                   of the seats is not admissible after H
--   HaveMet H xs ys              == the seats ys are the seats xs, each of which has met H
--   IsCloseRefused table xs ys s == after some history of the table the close with the seats xs is refused
--                                   with s; they come back as ys, and have met that history
use Rattle.std.specs.Prelude.{◌≡◌, ℕ, ◌+◌, ◌<◌, ◌≤◌, List, length, slice_get, Some, ◌⊎◌, sum}
use Rattle.std.specs.List.{slice_index}
use Rattle.dg_table.specs.Common.{ShowsPosition, position_after, gifts_in, Entry, MAX_SEATS, Ghosts, TableData}
use Rattle.dg_table.specs.Histories.{IsHistoryOf}
use Rattle.dg_table.specs.Seats.{SeatView, HoldsKnown, IsAdmissible, Attests, HasMet}
use Rattle.dg_table.specs.declared.audit.Audit.{Audit}

abbrev pub HasSeat : List SeatView → ℕ → Type 0
HasSeat xs s = (i : ℕ) × (x : SeatView) × (slice_get xs i ≡ Some x) × (x.number ≡ s)

abbrev pub AreAllSeats : ℕ → List SeatView → Type 0
AreAllSeats n xs = (s : ℕ) → 1 ≤ s → s ≤ n → HasSeat xs s

abbrev pub HoldsAllSeats : List Entry → List SeatView → Type 0
HoldsAllSeats H xs = (i : ℕ) (x : SeatView) → slice_get xs i ≡ Some x → HoldsKnown H x

abbrev pub AttestsAll : List Entry → List SeatView → Type 0
AttestsAll H xs = (i : ℕ) (x : SeatView) → slice_get xs i ≡ Some x → Attests H x

pub record IsAttested (table : TableData) (xs : List SeatView) (H : List Entry) : Type 0 where
  pub history : IsHistoryOf table H
  pub attested : AttestsAll H xs

abbrev pub AttestedIsUnique : Type 0
AttestedIsUnique = (table : TableData) (xs : List SeatView) (H K : List Entry) → AreAllSeats table.seats xs →
    IsAttested table xs H → IsAttested table xs K → H ≡ K

pub record IsClosed (table : TableData) (xs : List SeatView) (H : List Entry) : Type 0 where
  pub history : IsHistoryOf table H
  pub complete : AreAllSeats table.seats xs
  pub held : HoldsAllSeats H xs

pub record AreAuditTotals {N : Type 0} {named : Ghosts N} (table : TableData) (xs : List SeatView)
    (a : Audit N named) : Type 0 where
  pub entries : a.entries ≡ length a.pen.entries
  pub gifts : a.gifts ≡ gifts_in a.pen.entries
  pub graph : a.graph ≡ (position_after table.start a.pen.entries).graph
  pub position : ShowsPosition (position_after table.start a.pen.entries) a.position
  pub calls : (i : ℕ) (x : SeatView) → slice_get xs i ≡ Some x → (s : ℕ) → x.number ≡ s + 1 →
      slice_index a.calls s ≡ length x.mine
  pub others : (s : ℕ) → table.seats ≤ s → s < MAX_SEATS → slice_index a.calls s ≡ 0
  pub all : sum a.calls ≡ a.entries

pub record IsMissingSeat (n : ℕ) (xs : List SeatView) (s : ℕ) : Type 0 where
  pub seat : (1 ≤ s) × (s ≤ n)
  pub missing : ¬ HasSeat xs s
  pub least : (t : ℕ) → 1 ≤ t → t < s → HasSeat xs t

abbrev pub HasInadmissibleSeat : List Entry → List SeatView → Type 0
HasInadmissibleSeat H xs = (i : ℕ) × (x : SeatView) × (slice_get xs i ≡ Some x) × (¬ IsAdmissible H x)

abbrev pub RefusesClose : List Entry → ℕ → List SeatView → ℕ → Type 0
RefusesClose H n xs s = IsMissingSeat n xs s ⊎ ((s ≡ 0) × AreAllSeats n xs × HasInadmissibleSeat H xs)

pub record HaveMet (H : List Entry) (xs ys : List SeatView) : Type 0 where
  pub count : length ys ≡ length xs
  pub each : (i : ℕ) (x y : SeatView) → slice_get xs i ≡ Some x → slice_get ys i ≡ Some y → HasMet H x y

pub record IsCloseRefused (table : TableData) (xs ys : List SeatView) (s : ℕ) : Type 0 where
  pub history : List Entry
  pub is : IsHistoryOf table history
  pub refused : RefusesClose history table.seats xs s
  pub met : HaveMet history xs ys
