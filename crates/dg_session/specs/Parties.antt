-- Sessions side by side, and a party: one table, a seat and a thread for each script, and one history of all.
-- A script is the bytes of a session's lines; x and y are seats before and after.
--   script_bytes scripts                       == the bytes of each of the scripts
--   IsScriptOver table names script x y end    == a session of the seat x over the bytes of the script, with one
--                                                 worker, came to this end and left the seat as y. It had no
--                                                 stream that could fail: the script was in memory, and what it
--                                                 said was kept by nobody
--   AreSessions .. scripts xs ys ends          == so did, one beside another, a session of each seat over the
--                                                 script at its place
--   FirstHaveRun .. k scripts xs ys            == the first k seats had such sessions, and the others are as
--                                                 they were
--   SomeHaveRun .. scripts xs ys               == the first seats had them, perhaps none and never all
--   IsSessionsFault .. scripts xs ys fault     == memory was refused, and the seats are as they were; or a
--                                                 thread was not started, of two scripts or more, and the first
--                                                 seats, perhaps none and never all, had their sessions
--   IsPartySession table names H s script end  == the entries of the seat s in the history H are those that a
--                                                 session over the script made for it, which came to this end,
--                                                 and H begins with the history that it found, and with the one
--                                                 that it had met
--   IsParty table names scripts ends text      == there is one history of the table; for each script, in order,
--                                                 a session over it, which came to the end at its place, made
--                                                 just the entries of its seat in that history; and the text is
--                                                 the history's, with its totals
--   IsOfSeats n P                              == P holds of some n fresh seats and of what they became
--   IsPartyRefused table names scripts refusal == the party is refused so: memory is wanting; or a thread was
--                                                 not started, of two scripts or more, and the first seats,
--                                                 perhaps none and never all, had their sessions; or all
--                                                 had, and then the table was not closed with all its
--                                                 seats, of which no clause tells why: every party may end
--                                                 so
use Rattle.std.specs.Prelude.{◌≡◌, ◌≢◌, ℕ, zero, suc, ◌+◌, ◌<◌, ◌≤◌, List, [], ◌∷◌, ◌++◌, length, map, slice_get, None, Some, ⊤, Result, Err}
use Rattle.std.specs.Global.{Vec}
use Rattle.dg_session.specs.Common.{Vector, position_after, ShowsPosition, Entry, IsPrefixOf, TableData, Shortage, OutOfMemory, Spawn, IsCloseRefused, IsHistoryOf, AreFresh, SeatView, entries_of}
use Rattle.dg_session.specs.Commands.{setup_of}
use Rattle.dg_session.specs.Ends.{IsSession}
use Rattle.dg_session.specs.Streams.{passage}
use Rattle.dg_session.specs.declared.ends.SessionEnd.{SessionEnd}
use Rattle.dg_session.specs.declared.ends.SessionEnd.TheVariants.{Read, Write}
use Rattle.dg_session.specs.declared.line_format.LineFormat.TheVariants.{OneSeat}
use Rattle.dg_session.specs.Printed.{numbered_entries_text, audit_text}
use Rattle.dg_session.specs.declared.played.PartyRefusal.{PartyRefusal}
use Rattle.dg_session.specs.declared.played.PartyRefusal.TheVariants as party

abbrev pub script_bytes : List (Vec ℕ) → List (List ℕ)
script_bytes scripts = map (λ (script : Vec ℕ). script.items) scripts

pub record IsScriptOver (table : TableData) (names : List (List ℕ)) (script : List ℕ) (x y : SeatView)
    (end : Result ℕ SessionEnd) : Type 0 where
  pub session : IsSession (setup_of OneSeat table names 1) (passage (Some script) (Some []))
      (passage None None) (x ∷ []) (y ∷ []) end
  pub read : end ≢ Err Read
  pub write : end ≢ Err Write

unfoldable pub AreSessions : TableData → List (List ℕ) → List (List ℕ) → List SeatView
    → List SeatView → List (Result ℕ SessionEnd) → Type 0
AreSessions table names (script ∷ scripts) (x ∷ xs) (y ∷ ys) (end ∷ ends) =
    IsScriptOver table names script x y end × AreSessions table names scripts xs ys ends
AreSessions table names [] [] [] [] = ⊤
AreSessions table names scripts xs ys ends = ⊥

unfoldable pub FirstHaveRun : TableData → List (List ℕ) → ℕ → List (List ℕ) → List SeatView
    → List SeatView → Type 0
FirstHaveRun table names zero scripts xs ys = ys ≡ xs
FirstHaveRun table names (suc k) (script ∷ scripts) (x ∷ xs) (y ∷ ys) =
    ((end : Result ℕ SessionEnd) × IsScriptOver table names script x y end)
    × FirstHaveRun table names k scripts xs ys
FirstHaveRun table names k scripts xs ys = ⊥

abbrev pub SomeHaveRun : TableData → List (List ℕ) → List (List ℕ) → List SeatView → List SeatView → Type 0
SomeHaveRun table names scripts xs ys =
    (k : ℕ) × (k < length scripts) × FirstHaveRun table names k scripts xs ys

abbrev pub IsSessionsFault : TableData → List (List ℕ) → List (List ℕ) → List SeatView
    → List SeatView → Shortage → Type 0
IsSessionsFault table names scripts xs ys OutOfMemory = ys ≡ xs
IsSessionsFault table names scripts xs ys Spawn =
    (2 ≤ length scripts) × SomeHaveRun table names scripts xs ys

pub record IsPartySession (table : TableData) (names : List (List ℕ)) (H : List Entry) (s : ℕ)
    (script : List ℕ) (end : Result ℕ SessionEnd) : Type 0 where
  pub before : SeatView
  pub after : SeatView
  pub seat : before.number ≡ s
  pub no_calls : before.mine ≡ []
  pub own : entries_of s H ≡ after.mine
  pub begins : IsPrefixOf after.prefix H
  pub met : IsPrefixOf after.met H
  pub session : IsScriptOver table names script before after end

pub record IsParty (table : TableData) (names : List (List ℕ)) (scripts : List (List ℕ))
    (ends : List (Result ℕ SessionEnd)) (text : List ℕ) : Type 0 where
  pub history : List Entry
  pub is : IsHistoryOf table history
  pub count : length ends ≡ length scripts
  pub sessions : (i : ℕ) (script : List ℕ) (end : Result ℕ SessionEnd)
      → slice_get scripts i ≡ Some script → slice_get ends i ≡ Some end
      → IsPartySession table names history (i + 1) script end
  pub position : Vector
  pub shown : ShowsPosition (position_after table.start history) position
  pub printed : text ≡ numbered_entries_text names 0 history
      ++ audit_text names (length scripts) history position

pub record IsOfSeats (n : ℕ) (P : List SeatView → List SeatView → Type 0) : Type 0 where
  pub before : List SeatView
  pub after : List SeatView
  pub fresh : AreFresh n before
  pub holds : P before after

abbrev pub IsPartyRefused : TableData → List (List ℕ) → List (List ℕ) → PartyRefusal → Type 0
IsPartyRefused table names scripts (party.Shortage OutOfMemory) = ⊤
IsPartyRefused table names scripts (party.Shortage Spawn) =
    IsOfSeats table.seats (λ xs ys. IsSessionsFault table names scripts xs ys Spawn)
IsPartyRefused table names scripts party.Log = IsOfSeats table.seats (λ xs ys.
    ((ends : List (Result ℕ SessionEnd)) × AreSessions table names scripts xs ys ends)
    × ((zs : List SeatView) × IsCloseRefused table ys zs 0))
