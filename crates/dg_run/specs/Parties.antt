-- Parties: a session over each of the scripts that are named, on one table.
--   script_names task                       == the names of the scripts, in their order
--   AreFilesHeld held task o names scripts  == the file that is named describes a table of the start o
--                                              with these names, and the files of the scripts may hold
--                                              these
--   early s ends                            == the ends, from seat s on, that came early, each with its
--                                              seat
--   IsPartyOf held task ends text           == on the table of the file that is named, sessions over the
--                                              scripts came to these ends, and the text is that of the
--                                              table's history and totals
--   PlaysParty held task old new            == all sessions came to the ends of their scripts, and the
--                                              output has grown by that text
--   RefusesReading held file names fault    == the table file is not read, or it is held, and a script is
--                                              the first that is not
--   RefusesPartyFiles held file names fault == a file is not read; or all are, and the table file is
--                                              refused
--   IsPrintedWith ends text fault old new   == the output has grown by the text, and the fault tells of
--                                              the sessions that ended early, of which there is one,
--                                              least being the end of the first; or the output failed,
--                                              and has grown by a beginning of the text; or memory was
--                                              refused before
--   EndsSome held task fault old new        == so did a party
--   IsRefusedOn held task refusal           == a party over the scripts, on the table of the file that is
--                                              named, is refused so
--   IsWanting held task fault               == a party on this table lacks memory or a thread; or its
--                                              table is not closed
--   RefusesParty held task fault old new    == so is the party: there are too many scripts; or a file is
--                                              not read; or the table file is refused, if all are; or
--                                              memory, a thread or the history is refused. The output is
--                                              as it was, unless sessions ended early, or it failed
use Rattle.std.specs.Prelude.{◌≡◌, ℕ, ◌+◌, ◌<◌, ◌≤◌, List, [], ◌∷◌, length, map, Option, Result, Ok, Err, ◌⊎◌}
use Rattle.std.specs.Io.KnownBytes.{Appends, Keeps}
use Rattle.dg_run.specs.Common.{MAX_SEATS, SessionEnd, AppendsFront, StartData, table_data_of, IsParty, IsPartyRefused, PartyRefusal, Held, MayHold, IsSourceFault, MayHoldAll, IsFirstUnread, TaskFault, Source, File, DescribesTable, IsOnTable, RefusesContents, SourceFault, PartyTask, OutOfMemory}
use Rattle.dg_session.specs.declared.played.PartyRefusal.TheVariants as party
use Rattle.dg_run.specs.Status.{IsTaskFault}
use Rattle.dg_run.specs.declared.fault.Fault.{Fault}
use Rattle.dg_run.specs.declared.fault.Fault.TheVariants.{Sessions, Seats, Shortage, History, Write}

abbrev pub script_names : PartyTask → List (List ℕ)
script_names task = map (λ name. name.now) task.scripts.items

abbrev pub AreFilesHeld : (List ℕ → Held) → PartyTask → StartData → List (List ℕ) → List (List ℕ) → Type 0
AreFilesHeld held task o names scripts =
    DescribesTable (held task.file.now) o names × MayHoldAll held (script_names task) scripts

abbrev pub early : ℕ → List (Result ℕ SessionEnd) → List (ℕ × SessionEnd)
early s [] = []
early s (Ok count ∷ ends) = early (s + 1) ends
early s (Err end ∷ ends) = (s, end) ∷ early (s + 1) ends

abbrev pub IsPartyOf : (List ℕ → Held) → PartyTask → List (Result ℕ SessionEnd) → List ℕ → Type 0
IsPartyOf held task ends text = IsOnTable (held task.file.now) (λ o names.
    (scripts : List (List ℕ)) × MayHoldAll held (script_names task) scripts
    × IsParty (table_data_of o (length scripts) task.capacity) names scripts ends text)

pub record PlaysParty (held : List ℕ → Held) (task : PartyTask) (old new : Option (List ℕ))
    : Type 0 where
  pub ends : List (Result ℕ SessionEnd)
  pub text : List ℕ
  pub party : IsPartyOf held task ends text
  pub whole : early 1 ends ≡ []
  pub printed : Appends old new text

abbrev pub RefusesReading : (List ℕ → Held) → List ℕ → List (List ℕ) → SourceFault → Type 0
RefusesReading held file names fault =
    IsSourceFault (held file) fault
    ⊎ (((table : List ℕ) × MayHold (held file) table) × IsFirstUnread held names fault)

abbrev pub RefusesPartyFiles : (List ℕ → Held) → List ℕ → List (List ℕ) → TaskFault → Type 0
RefusesPartyFiles held file names (Source fault) = RefusesReading held file names fault
RefusesPartyFiles held file names (File fault) =
    ((all : List (List ℕ)) × MayHoldAll held names all) × RefusesContents (held file) fault
RefusesPartyFiles held file names fault = ⊥

abbrev pub IsPrintedWith : List (Result ℕ SessionEnd) → List ℕ → Fault → Option (List ℕ)
    → Option (List ℕ) → Type 0
IsPrintedWith ends text (Sessions least all) old new = (early 1 ends ≡ all.items)
    × ((seat : ℕ) × (others : List (ℕ × SessionEnd)) × (all.items ≡ (seat, least) ∷ others))
    × Appends old new text
IsPrintedWith ends text Write old new = AppendsFront old new [] text
IsPrintedWith ends text fault old new = (fault ≡ Shortage OutOfMemory) × Keeps old new

pub record EndsSome (held : List ℕ → Held) (task : PartyTask) (fault : Fault)
    (old new : Option (List ℕ)) : Type 0 where
  pub ends : List (Result ℕ SessionEnd)
  pub text : List ℕ
  pub party : IsPartyOf held task ends text
  pub printed : IsPrintedWith ends text fault old new

abbrev pub IsRefusedOn : (List ℕ → Held) → PartyTask → PartyRefusal → Type 0
IsRefusedOn held task refusal = IsOnTable (held task.file.now) (λ o names.
    (scripts : List (List ℕ)) × MayHoldAll held (script_names task) scripts
    × IsPartyRefused (table_data_of o (length scripts) task.capacity) names scripts refusal)

abbrev pub IsWanting : (List ℕ → Held) → PartyTask → Fault → Type 0
IsWanting held task (Shortage lack) = IsRefusedOn held task (party.Shortage lack)
IsWanting held task History = IsRefusedOn held task party.Log
IsWanting held task fault = ⊥

abbrev pub RefusesParty : (List ℕ → Held) → PartyTask → Fault → Option (List ℕ) → Option (List ℕ)
    → Type 0
RefusesParty held task fault old new =
    ((fault ≡ Seats) × (MAX_SEATS < length task.scripts.items) × Keeps old new)
    ⊎ ((length task.scripts.items ≤ MAX_SEATS)
    × IsTaskFault (RefusesPartyFiles held task.file.now (script_names task)) fault × Keeps old new)
    ⊎ ((length task.scripts.items ≤ MAX_SEATS) × IsWanting held task fault × Keeps old new)
    ⊎ EndsSome held task fault old new
