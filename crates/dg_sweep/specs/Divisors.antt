-- Lines that are amounts for the vertices of one table, the start o with these names. A line stands
-- for that table with its amounts, as the file of a table would have them.
--   SpellsAmounts line xs                     == the words of the line are the decimals of the numbers xs,
--                                                which 64 bits hold
--   SpellsNoAmounts line                      == it spells no numbers so
--   SpellsDivisor n line d                    == d is the divisor on n vertices with the amounts that the
--                                                line spells
--   LineStandsFor o line p                    == the line stands for the start p: o with the amounts that it
--                                                spells
--   IsAmountsFault n line fault               == the first fault of the line's amounts for n vertices, which
--                                                a table file with these amounts would have; of want of
--                                                memory nothing is said
--   AnswersAmounts question o names line text == the line stands for a table, and the text answers the
--                                                question for it; or it is refused, and the text says why
--   of_amounts question o names               == so lines are answered that are amounts
use Rattle.std.specs.Prelude.{◌≡◌, ℕ, ◌⊎◌, ℤ, List, map, All, FitsSigned, ⊤}
use Rattle.std.specs.Fmt.{signed_decimal}
use Rattle.std.specs.Int.{w64}
use Rattle.dg_sweep.specs.Common.{StartData, Vector, HoldsNumbers, IsDivisorVector, IsChipFault, words, FileFault, Shape, Chip, OutOfMemory, Amounts, Question}
use Rattle.dg_sweep.specs.Answers.{AnswersTable, IsRefusalOf, Rule, columns}

pub record SpellsAmounts (line : List ℕ) (xs : List ℤ) : Type 0 where
  pub spelled : words line ≡ map signed_decimal xs
  pub held : All (FitsSigned w64) xs

abbrev pub SpellsNoAmounts : List ℕ → Type 0
SpellsNoAmounts line = (xs : List ℤ) → ¬ SpellsAmounts line xs

pub record SpellsDivisor (n : ℕ) (line : List ℕ) (d : Vector) : Type 0 where
  pub xs : List ℤ
  pub spelled : SpellsAmounts line xs
  pub amounts : HoldsNumbers xs d
  pub size : d.size ≡ n
  pub within : IsDivisorVector d

pub record LineStandsFor (o : StartData) (line : List ℕ) (p : StartData) : Type 0 where
  pub xs : List ℤ
  pub spelled : SpellsAmounts line xs
  pub divisor : Vector
  pub amounts : HoldsNumbers xs divisor
  pub size : divisor.size ≡ o.graph.size
  pub within : IsDivisorVector divisor
  pub rest : p ≡ record o { divisor = divisor }

abbrev pub IsAmountsFault : ℕ → List ℕ → FileFault → Type 0
IsAmountsFault n line (Shape Amounts) = SpellsNoAmounts line
IsAmountsFault n line (Chip fault) =
    (xs : List ℤ) × SpellsAmounts line xs × IsChipFault n xs fault
IsAmountsFault n line OutOfMemory = ⊤
IsAmountsFault n line fault = ⊥

pub record AnswersSpelled (question : Question) (o : StartData) (names : List (List ℕ))
    (line text : List ℕ) : Type 0 where
  pub start : StartData
  pub stands : LineStandsFor o line start
  pub answer : AnswersTable question start names text

abbrev pub AnswersAmounts : Question → StartData → List (List ℕ) → List ℕ → List ℕ → Type 0
AnswersAmounts question o names line text =
    IsRefusalOf (IsAmountsFault o.graph.size line) (columns question o.graph.size) text
    ⊎ AnswersSpelled question o names line text

abbrev pub of_amounts : Question → StartData → List (List ℕ) → Rule
of_amounts question o names =
    record { columns = columns question o.graph.size; answers = AnswersAmounts question o names }
