-- Steps: a seat from 1 to 64, one space, and a command line.
--   IsSeatedLine seat text line  == the line is the decimal of a seat, a space and the text
--   IsStepLine names step line   == the line is that of the step's seat and of a text that spells its command
--   IsTextFault names fault line == the line is that of a seat and of a text that is refused with the fault
--   IsStepFault names fault line == the line has no seat, or the text after it is refused so
use Rattle.std.specs.Prelude.{◌≡◌, ℕ, ◌≤◌, List, ◌++◌, codes, decimal}
use Rattle.dg_rules.specs.declared.entry.TheConstants.{MAX_SEATS}
use Rattle.dg_rules.specs.declared.step.Step.{Step}
use Rattle.dg_lines.specs.Commands.{SpellsCommand}
use Rattle.dg_lines.specs.LineFaults.{IsLineFault}
use Rattle.dg_lines.specs.declared.line.LineFault.{LineFault}
use Rattle.dg_lines.specs.declared.line.LineFault.TheVariants.{Seat}

pub record IsSeatedLine (seat : ℕ) (text : List ℕ) (line : List ℕ) : Type 0 where
  pub whole : line ≡ decimal seat ++ codes " " ++ text
  pub first : 1 ≤ seat
  pub last : seat ≤ MAX_SEATS

pub record IsStepLine (names : List (List ℕ)) (step : Step) (line : List ℕ) : Type 0 where
  pub text : List ℕ
  pub seated : IsSeatedLine step.seat text line
  pub means : SpellsCommand names step.command text

pub record IsTextFault (names : List (List ℕ)) (fault : LineFault) (line : List ℕ) : Type 0 where
  pub seat : ℕ
  pub text : List ℕ
  pub seated : IsSeatedLine seat text line
  pub refused : IsLineFault names fault text

abbrev pub IsStepFault : List (List ℕ) → LineFault → List ℕ → Type 0
IsStepFault names Seat line = (seat : ℕ) (text : List ℕ) → ¬ IsSeatedLine seat text line
IsStepFault names fault line = IsTextFault names fault line
