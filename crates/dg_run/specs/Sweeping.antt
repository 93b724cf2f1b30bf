-- Sweeps over the lines of a file. `held` tells what is known of the file of each name, and old and
-- new what the output held and holds, if that is known.
--   LinesSwept held file question divisors P   == P holds of the file of lines, and of what answers them:
--                                                 as tables, if none of amounts is named; or else as
--                                                 amounts, for the table that the file describes
--   HasLines held task P                       == the same for the files that the task names
--   IsSwept old new result h rule              == bytes that the file h may have were swept, with that
--                                                 result, where the rule says what answers a line
--   Sweeps held task old new                   == all its lines were answered
--   RefusesLines old new fault h rule          == the file h can't be opened, and the output is as it was; or
--                                                 the sweep of its bytes ended early
--   RefusesLinesTable held file divisors fault == the lines are amounts, and the table file is refused
--   RefusesSweeping held task fault old new    == the table file is refused so, and the output is as it was;
--                                                 or the lines are refused so, or ended so
use Rattle.std.specs.Borrow.{Bor}
use Rattle.std.specs.Io.KnownBytes.{Keeps}
use Rattle.dg_run.specs.Common.{Question, SweepTask, Held, MayGive, IsStreamFault, Rule, of_tables, of_amounts, IsSweep, SweepEnd, IsOnTable, RefusesTable, Source}
use Rattle.std.specs.Prelude.{◌⊎◌, ℕ, List, Option, None, Some, Result, Ok, Err}
use Rattle.dg_run.specs.Status.{IsTaskFault}
use Rattle.dg_run.specs.declared.fault.Fault.{Fault}
use Rattle.dg_run.specs.declared.fault.Fault.TheVariants.{Task, Sweep}

abbrev pub LinesSwept : (List ℕ → Held) → List ℕ → Question → Option (Bor (List ℕ))
    → (Held → Rule → Type 0) → Type 0
LinesSwept held file question None P = P (held file) (of_tables question)
LinesSwept held file question (Some lines) P =
    IsOnTable (held file) (λ o names. P (held lines.now) (of_amounts question o names))

abbrev pub HasLines : (List ℕ → Held) → SweepTask
    → (Held → Rule → Type 0) → Type 0
HasLines held task P = LinesSwept held task.file.now task.question task.divisors P

pub record IsSwept (old new : Option (List ℕ)) (result : Result (Unit {0}) SweepEnd) (h : Held)
    (rule : Rule) : Type 0 where
  pub input : Option (List ℕ)
  pub rest : Option (List ℕ)
  pub given : MayGive h input
  pub swept : IsSweep rule input rest old new result

abbrev pub Sweeps : (List ℕ → Held) → SweepTask → Option (List ℕ) → Option (List ℕ) → Type 0
Sweeps held task old new = HasLines held task (IsSwept old new (Ok tt))

abbrev pub RefusesLines : Option (List ℕ) → Option (List ℕ) → Fault → Held
    → Rule → Type 0
RefusesLines old new (Task (Source fault)) h rule = IsStreamFault h fault × Keeps old new
RefusesLines old new (Sweep end) h rule = IsSwept old new (Err end) h rule
RefusesLines old new fault h rule = ⊥

abbrev pub RefusesLinesTable : (List ℕ → Held) → List ℕ → Option (Bor (List ℕ)) → Fault → Type 0
RefusesLinesTable held file None fault = ⊥
RefusesLinesTable held file (Some lines) fault = IsTaskFault (RefusesTable (held file)) fault

abbrev pub RefusesSweeping : (List ℕ → Held) → SweepTask → Fault → Option (List ℕ) → Option (List ℕ)
    → Type 0
RefusesSweeping held task fault old new =
    (RefusesLinesTable held task.file.now task.divisors fault × Keeps old new)
    ⊎ HasLines held task (RefusesLines old new fault)
