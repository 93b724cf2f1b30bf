-- A schedule: a step on each line.
--   AreStepsOf names steps lines          == the lines spell the steps, in their order
--   StepsHaveSeats steps                  == each step has a seat, 1 to 64
--   IsFirstRefused names lines line fault == the line, counted from 1, is the first that is refused,
--                                            with that fault
--   IsStepsFault names lines fault        == the fault is the first line that is refused; of want of
--                                            memory it says nothing
use Rattle.std.specs.Prelude.{◌≡◌, ℕ, ◌+◌, List, ◌∷◌, ◌++◌, length, slice_get, Some}
use Rattle.dg_rules.specs.Legal.{IsSeatNumber}
use Rattle.dg_rules.specs.declared.step.Step.{Step}
use Rattle.dg_lines.specs.declared.line.LineFault.{LineFault}
use Rattle.dg_lines.specs.declared.steps_file.StepsFault.{StepsFault}
use Rattle.dg_lines.specs.declared.steps_file.StepsFault.TheVariants.{Line, OutOfMemory}
use Rattle.dg_lines.specs.Steps.{IsStepLine, IsStepFault}

pub record AreStepsOf (names : List (List ℕ)) (steps : List Step) (lines : List (List ℕ))
    : Type 0 where
  pub count : length steps ≡ length lines
  pub each : (k : ℕ) (step : Step) (line : List ℕ)
      → slice_get steps k ≡ Some step → slice_get lines k ≡ Some line → IsStepLine names step line

abbrev pub StepsHaveSeats : List Step → Type 0
StepsHaveSeats steps = (k : ℕ) (step : Step) → slice_get steps k ≡ Some step → IsSeatNumber step.seat

pub record IsFirstRefused (names lines : List (List ℕ)) (line : ℕ)
    (fault : LineFault) : Type 0 where
  pub front : List (List ℕ)
  pub refused : List ℕ
  pub back : List (List ℕ)
  pub whole : lines ≡ front ++ refused ∷ back
  pub place : line ≡ length front + 1
  pub steps : List Step
  pub accepted : AreStepsOf names steps front
  pub refusal : IsStepFault names fault refused

abbrev pub IsStepsFault : List (List ℕ) → List (List ℕ) → StepsFault → Type 0
IsStepsFault names lines (Line line fault) = IsFirstRefused names lines line fault
IsStepsFault names lines OutOfMemory = Unit {0}
