-- When a schedule is not played and printed.
--   IsStepsFaultOn n names lines fault  == the lines spell steps, and the fault is the first one of these
--                                          on n vertices
--   RefusesSchedule n names lines fault == the first line that spells no step, with its fault; else the
--                                          first step for which there is no room, or that wants a look
--                                          while its seat keeps none, or that asks for a rank test past
--                                          the limits; of want of memory nothing is said, and no other
--                                          fault comes
use Rattle.std.specs.Prelude.{ℕ, List, ⊤}
use Rattle.dg_tasks.specs.Common.{IsRehearsalFault, RehearseFault, Step, AreStepsOf, IsFirstRefused, OutOfMemory}
use Rattle.dg_game.specs.declared.schedule.RehearseFault.TheVariants as schedule
use Rattle.dg_tasks.specs.declared.fault.TaskFault.{TaskFault}
use Rattle.dg_tasks.specs.declared.fault.TaskFault.TheVariants.{Line, Full, NoLook, StepTrials, Shortage}

abbrev pub IsStepsFaultOn : ℕ → List (List ℕ) → List (List ℕ) → RehearseFault → Type 0
IsStepsFaultOn n names lines fault =
    (steps : List Step) × AreStepsOf names steps lines × IsRehearsalFault n steps fault

abbrev pub RefusesSchedule : ℕ → List (List ℕ) → List (List ℕ) → TaskFault → Type 0
RefusesSchedule n names lines (Line line fault) = IsFirstRefused names lines line fault
RefusesSchedule n names lines (Full i) = IsStepsFaultOn n names lines (schedule.Full i)
RefusesSchedule n names lines (NoLook i) = IsStepsFaultOn n names lines (schedule.NoLook i)
RefusesSchedule n names lines (StepTrials i) = IsStepsFaultOn n names lines (schedule.TooMany i)
RefusesSchedule n names lines (Shortage OutOfMemory) = ⊤
RefusesSchedule n names lines fault = ⊥
