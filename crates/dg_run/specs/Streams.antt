-- Faults of the streams. Old and new stand for what the output held and holds, if that is known.
--   IsInputFault fault           == the fault tells that the input of a session failed
--   TellsOfRead fault input rest == the fault tells that the input failed; or no read of it has failed since; or
--                                   the table was not closed, of which nothing else is told
--   IsOutputFault fault          == the fault tells that the output failed
--   BreaksOff fault old new text == the output failed, and has grown by a beginning of the text
use Rattle.std.specs.Prelude.{◌≡◌, ◌≢◌, ℕ, List, [], Option, ⊤}
use Rattle.dg_run.specs.Common.{AppendsFront, StreamReading}
use Rattle.dg_session.specs.declared.ends.SessionEnd.TheVariants as session
use Rattle.dg_sweep.specs.declared.ends.SweepEnd.TheVariants as sweep
use Rattle.dg_run.specs.declared.fault.Fault.{Fault}
use Rattle.dg_run.specs.declared.fault.Fault.TheVariants.{Write, Session, Sweep, History}

abbrev pub IsInputFault : Fault → Type 0
IsInputFault (Session end) = end ≡ session.Read
IsInputFault fault = ⊥

abbrev pub TellsOfRead : Fault → StreamReading → StreamReading → Type 0
TellsOfRead fault input rest = (¬ IsInputFault fault) → fault ≢ History → rest.has_failed ≡ input.has_failed

abbrev pub IsOutputFault : Fault → Type 0
IsOutputFault Write = ⊤
IsOutputFault (Session end) = end ≡ session.Write
IsOutputFault (Sweep end) = end ≡ sweep.Write
IsOutputFault fault = ⊥

abbrev pub BreaksOff : Fault → Option (List ℕ) → Option (List ℕ) → List ℕ → Type 0
BreaksOff fault old new text = (fault ≡ Write) × AppendsFront old new [] text
