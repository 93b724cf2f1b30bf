-- Laws of lines and of the numbers in them.
--   HasMeaning names line               == the line spells a command or has a fault
--   LineMeaningIsUnique                 == no line spells a command and has a fault, and no line spells two
--                                          commands or has two faults
--   HasStepMeaning, StepMeaningIsUnique == the same of a line of a seat and a command line, as a step
--   IsDigit byte                        == an ASCII digit
--   IsUnsignedNumeral text              == a digit from 1 to 9, and any digits after it
--   IsNumeral text                      == `0`, or an optional `-`, a digit from 1 to 9 and any digits after
--                                          it
--   IsShortNumber z                     == the whole number z has at most 64 digits
--   NumeralsAreDecimals                 == a text of at most 64 bytes is the decimal of a whole number of at
--                                          most 64 digits exactly if it is a numeral; and no text is that of
--                                          two such numbers
use Rattle.std.specs.Prelude.{◌≡◌, ℕ, ◌<◌, ◌≤◌, ◌^◌, ℤ, ◌⊎◌, ◌↔◌, List, ◌∷◌, length, All, codes}
use Rattle.std.specs.Fmt.{signed_decimal}
use Rattle.std.specs.Int.RustNames.{unsigned_abs}
use Rattle.dg_rules.specs.declared.step.Command.{Command}
use Rattle.dg_rules.specs.declared.step.Step.{Step}
use Rattle.dg_lines.specs.Commands.{SpellsCommand}
use Rattle.dg_lines.specs.LineFaults.{IsLineFault}
use Rattle.dg_lines.specs.Steps.{IsStepLine, IsStepFault}
use Rattle.dg_lines.specs.declared.line.LineFault.{LineFault}

abbrev pub HasMeaning : List (List ℕ) → List ℕ → Type 0
HasMeaning names line =
    ((c : Command) × SpellsCommand names c line) ⊎ ((fault : LineFault) × IsLineFault names fault line)

pub record LineMeaningIsUnique : Type 0 where
  pub not_both : (names : List (List ℕ)) (line : List ℕ) (c : Command) (fault : LineFault)
      → SpellsCommand names c line → ¬ IsLineFault names fault line
  pub command : (names : List (List ℕ)) (line : List ℕ) (c d : Command)
      → SpellsCommand names c line → SpellsCommand names d line → c ≡ d
  pub fault : (names : List (List ℕ)) (line : List ℕ) (one other : LineFault)
      → IsLineFault names one line → IsLineFault names other line → one ≡ other

abbrev pub HasStepMeaning : List (List ℕ) → List ℕ → Type 0
HasStepMeaning names line =
    ((step : Step) × IsStepLine names step line) ⊎ ((fault : LineFault) × IsStepFault names fault line)

pub record StepMeaningIsUnique : Type 0 where
  pub not_both : (names : List (List ℕ)) (line : List ℕ) (step : Step) (fault : LineFault)
      → IsStepLine names step line → ¬ IsStepFault names fault line
  pub step : (names : List (List ℕ)) (line : List ℕ) (c d : Step)
      → IsStepLine names c line → IsStepLine names d line → c ≡ d
  pub fault : (names : List (List ℕ)) (line : List ℕ) (one other : LineFault)
      → IsStepFault names one line → IsStepFault names other line → one ≡ other

pub record IsDigit (byte : ℕ) : Type 0 where
  pub low : 48 ≤ byte
  pub high : byte ≤ 57

pub record IsUnsignedNumeral (text : List ℕ) : Type 0 where
  pub first : ℕ
  pub rest : List ℕ
  pub whole : text ≡ first ∷ rest
  pub low : 49 ≤ first
  pub high : first ≤ 57
  pub digits : All IsDigit rest

abbrev pub IsNumeral : List ℕ → Type 0
IsNumeral text =
    (text ≡ codes "0") ⊎ IsUnsignedNumeral text ⊎ ((rest : List ℕ) × (text ≡ 45 ∷ rest) × IsUnsignedNumeral rest)

abbrev pub IsShortNumber : ℤ → Type 0
IsShortNumber z = unsigned_abs z < 10 ^ 64

pub record NumeralsAreDecimals : Type 0 where
  pub just : (text : List ℕ) → length text ≤ 64
      → ((z : ℤ) × IsShortNumber z × (text ≡ signed_decimal z)) ↔ IsNumeral text
  pub one : (y z : ℤ) → IsShortNumber y → IsShortNumber z → signed_decimal y ≡ signed_decimal z → y ≡ z
