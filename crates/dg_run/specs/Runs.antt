-- Runs of the program: how a run ends. `asks` and `refuses` say what the words of the command line
-- may ask for, and why they may ask for nothing, as their reader has it.
--   Run                                  == the words of its command line; what is known of the file of each
--                                           name; the input before and after, as input and rest; and the
--                                           output before and after, as old and new
--   run_of words held input rest old new == the run of these
--   Succeeds asks run                    == what the words ask for is done; the input is as it was, unless
--                                           that is a session, and no read of it has failed since
--   RefusesWords refuses run fault       == the words are refused so, and the input and the output are as
--                                           they were
--   RefusesAsked asks run fault          == what the words ask for is refused so, or ended so; a fault in
--                                           reading the input, or in writing, tells that the input, or the
--                                           output, has failed; the input is as it was, unless a session was
--                                           asked for, and the fault tells if a read of it failed
--   IsCause asks refuses run fault       == one of the two
--   FailsWithStatus asks refuses run n   == n is the status of a fault that has its cause
use Rattle.std.specs.Prelude.{◌≡◌, ◌⊎◌, ℕ, List, true}
use Rattle.std.specs.Io.KnownBytes.{Keeps}
use Rattle.dg_run.specs.Common.{Invocation, ArgsFault, StreamReading, StreamWriting, Held, passage}
use Rattle.dg_run.specs.Streams.{IsInputFault, IsOutputFault, TellsOfRead}
use Rattle.dg_run.specs.Performed.{Performs, LeavesInput, RefusesToPerform}
use Rattle.dg_run.specs.Status.{status}
use Rattle.dg_run.specs.declared.fault.Fault.{Fault}
use Rattle.dg_run.specs.declared.fault.Fault.TheVariants.{Words}

pub record Run : Type 0 where
  pub words : List (List ℕ)
  pub held : List ℕ → Held
  pub input : StreamReading
  pub rest : StreamReading
  pub old : StreamWriting
  pub new : StreamWriting

abbrev pub run_of : List (List ℕ) → (List ℕ → Held) → StreamReading → StreamReading → StreamWriting → StreamWriting → Run
run_of words held input rest old new =
    record { words = words; held = held; input = input; rest = rest; old = old; new = new }

pub record Succeeds (asks : List (List ℕ) → Invocation → Type 0) (run : Run) : Type 0 where
  pub asked : Invocation
  pub wanted : asks run.words asked
  pub done : Performs run.held (passage run.input.remaining run.rest.remaining) asked
      run.old.contents run.new.contents
  pub left : LeavesInput asked run.input run.rest
  pub noted : run.rest.has_failed ≡ run.input.has_failed

pub record RefusesWords (refuses : List (List ℕ) → ArgsFault → Type 0) (run : Run) (fault : Fault)
    : Type 0 where
  pub why : ArgsFault
  pub tells : fault ≡ Words why
  pub refused : refuses run.words why
  pub left : run.rest ≡ run.input
  pub kept : Keeps run.old.contents run.new.contents

pub record RefusesAsked (asks : List (List ℕ) → Invocation → Type 0) (run : Run) (fault : Fault)
    : Type 0 where
  pub asked : Invocation
  pub wanted : asks run.words asked
  pub refused : RefusesToPerform run.held (passage run.input.remaining run.rest.remaining) asked fault
      run.old.contents run.new.contents
  pub left : LeavesInput asked run.input run.rest
  pub read : IsInputFault fault → run.rest.has_failed ≡ true
  pub noted : TellsOfRead fault run.input run.rest
  pub write : IsOutputFault fault → run.new.has_failed ≡ true

abbrev pub IsCause : (List (List ℕ) → Invocation → Type 0) → (List (List ℕ) → ArgsFault → Type 0)
    → Run → Fault → Type 0
IsCause asks refuses run fault = RefusesWords refuses run fault ⊎ RefusesAsked asks run fault

pub record FailsWithStatus (asks : List (List ℕ) → Invocation → Type 0)
    (refuses : List (List ℕ) → ArgsFault → Type 0) (run : Run) (n : ℕ) : Type 0 where
  pub fault : Fault
  pub tells : status fault ≡ n
  pub cause : IsCause asks refuses run fault
