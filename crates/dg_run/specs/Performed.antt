-- What is asked for, done or refused. `held` tells what is known of the file of each name; input
-- stands for the bytes that the reader had to give and has left, and old and new for what the output
-- held and holds, if those are known.
--   Performs held input asked old new               == what is asked for is done: the output has grown by the
--                                                      answer to the task, by the text of a call for help, by
--                                                      what a session said, by the history and the totals of
--                                                      a party, or by the answers to the lines of a file
--   LeavesInput asked input rest                    == the input is as it was: only a session reads it
--   RefusesToPerform held input asked fault old new == what is asked for is refused so, or ended so; or the
--                                                      output failed at the text of the answer, or of the
--                                                      help
use Rattle.std.specs.Prelude.{◌≡◌, ◌⊎◌, ℕ, List, Option, string_bytes, ⊤}
use Rattle.std.specs.Io.KnownBytes.{Appends, Keeps}
use Rattle.dg_run.specs.Common.{Passage, StreamReading, Held, IsAnswer, RefusesTask, Invocation, Task, Serve, Party, Sweep, Text}
use Rattle.dg_invocation.specs.declared.invocation.Task as asked
use Rattle.dg_run.specs.Status.{IsTaskFault}
use Rattle.dg_run.specs.Streams.{BreaksOff}
use Rattle.dg_run.specs.Sessions.{Serves, RefusesServing}
use Rattle.dg_run.specs.Parties.{PlaysParty, RefusesParty}
use Rattle.dg_run.specs.Sweeping.{Sweeps, RefusesSweeping}
use Rattle.dg_run.specs.declared.fault.Fault.{Fault}

abbrev pub Performs : (List ℕ → Held) → Passage → Invocation → Option (List ℕ) → Option (List ℕ)
    → Type 0
Performs held input (Task task) old new = (text : List ℕ) × IsAnswer held task text × Appends old new text
Performs held input (Serve task) old new = Serves held input task old new
Performs held input (Party task) old new = PlaysParty held task old new
Performs held input (Sweep task) old new = Sweeps held task old new
Performs held input (Text help) old new = Appends old new (string_bytes help)

abbrev pub LeavesInput : Invocation → StreamReading → StreamReading → Type 0
LeavesInput (Serve task) input rest = ⊤
LeavesInput asked input rest = rest ≡ input

abbrev pub RefusesToPerform : (List ℕ → Held) → Passage → Invocation → Fault → Option (List ℕ)
    → Option (List ℕ) → Type 0
RefusesToPerform held input (Task task) fault old new =
    (IsTaskFault (RefusesTask held task) fault × Keeps old new)
    ⊎ ((text : List ℕ) × IsAnswer held task text × BreaksOff fault old new text)
RefusesToPerform held input (Serve task) fault old new = RefusesServing held input task fault old new
RefusesToPerform held input (Party task) fault old new = RefusesParty held task fault old new
RefusesToPerform held input (Sweep task) fault old new = RefusesSweeping held task fault old new
RefusesToPerform held input (Text help) fault old new = BreaksOff fault old new (string_bytes help)
