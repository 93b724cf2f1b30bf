-- Sessions over the input.
--   line_format seats          == how the lines name the seats: by number if so many are asked for,
--                                        and not if none are
--   session_of task o names       == what holds for the session that is asked for, on the table of the
--                                        start o
--   IsHeard t input output end   == a session over the input, of the table's seats, which know of no
--                                        entry, came to this end; the input has what it left, and the output
--                                        has grown by what it said
--   IsServed t input output end  == it did; and there is one history of the table, in which the entries
--                                        of each seat are just those of its own calls, each once and in
--                                        order; and what the lines entered, one line after another, is all of
--                                        it, numbered from 0; and it is full, if the end is that of a full
--                                        table
--   Serves held input task old new == such a session came to the end of the input, on the table of the
--                                        file that is named
--   IsUnclosed t input output    == such a session came to some end, and the table was not closed after
--                                        it, though all its seats were handed in. Of which history refused
--                                        them nothing is said, so no clause tells why: every session may end
--                                        so
--   EndsEarly t input fault output == such a session ended early, for that fault; or the table was not
--                                        closed after it; or memory was refused before it began, and the
--                                        input and the output are as they were
--   RefusesServing held input task fault old new == the table file is refused so, and the input and the
--                                        output are as they were; or the session on its table ended so
use Rattle.std.specs.Prelude.{◌≡◌, ℕ, List, length, Option, None, Some, Result, Ok, Err, ◌⊎◌}
use Rattle.std.specs.Io.KnownBytes.{Keeps}
use Rattle.std.specs.List.{enumerate_from}
use Rattle.dg_run.specs.Common.{Entry, AreFresh, IsClosed, IsCloseRefused, SeatView, Setup, setup_of, Passage, passage, IsSession, LineFormat, OneSeat, BySeat, SessionEnd, Table, Full, Held, IsOnTable, RefusesTable, seat_count, ServeTask, OutOfMemory, StartData, table_data_of}
use Rattle.dg_run.specs.Status.{IsTaskFault}
use Rattle.dg_run.specs.declared.fault.Fault.{Fault}
use Rattle.dg_run.specs.declared.fault.Fault.TheVariants.{Session, Shortage, History}

abbrev pub line_format : Option ℕ → LineFormat
line_format None = OneSeat
line_format (Some n) = BySeat

abbrev pub session_of : ServeTask → StartData → List (List ℕ) → Setup
session_of task o names =
    setup_of (line_format task.seats) (table_data_of o (seat_count task.seats) task.capacity) names
    task.workers

pub record IsHeard (t : Setup) (input output : Passage) (end : Result ℕ SessionEnd) : Type 0 where
  pub seats : List SeatView
  pub fresh : AreFresh t.table.seats seats
  pub after : List SeatView
  pub session : IsSession t input output seats after end

pub record IsServed (t : Setup) (input output : Passage) (end : Result ℕ SessionEnd)
    : Type 0 where
  pub heard : IsHeard t input output end
  pub history : List Entry
  pub closed : IsClosed t.table heard.after history
  pub full : end ≡ Err (Table Full) → length history ≡ t.table.capacity
  pub whole : heard.session.over.end.entered ≡ enumerate_from 0 history

abbrev pub Serves : (List ℕ → Held) → Passage → ServeTask → Option (List ℕ) → Option (List ℕ)
    → Type 0
Serves held input task old new = IsOnTable (held task.file.now) (λ o names.
    (count : ℕ) × IsServed (session_of task o names) input (passage old new) (Ok count))

pub record IsUnclosed (t : Setup) (input output : Passage) : Type 0 where
  pub end : Result ℕ SessionEnd
  pub heard : IsHeard t input output end
  pub met : List SeatView
  pub refused : IsCloseRefused t.table heard.after met 0

abbrev pub EndsEarly : Setup → Passage → Fault → Passage → Type 0
EndsEarly t input (Session end) output = IsServed t input output (Err end)
EndsEarly t input History output = IsUnclosed t input output
EndsEarly t input fault output =
    (fault ≡ Shortage OutOfMemory) × (input.after ≡ input.before)
    × Keeps output.before output.after

abbrev pub RefusesServing : (List ℕ → Held) → Passage → ServeTask → Fault → Option (List ℕ)
    → Option (List ℕ) → Type 0
RefusesServing held input task fault old new =
    (IsTaskFault (RefusesTable (held task.file.now)) fault × (input.after ≡ input.before)
    × Keeps old new)
    ⊎ IsOnTable (held task.file.now) (λ o names.
    EndsEarly (session_of task o names) input fault (passage old new))
