-- Laws of answers and of amounts.
--   TablesHaveOneAnswer    == no two texts answer a line of a table
--   AmountsHaveOneAnswer   == no two texts answer a line of amounts for a start and its names
--   AmountsMeaningIsUnique == a line of amounts that stands for a start has no such fault and stands for
--                             no other start, and no line has two such faults
use Rattle.std.specs.Prelude.{◌≡◌, ◌≢◌, ℕ, List, length}
use Rattle.dg_chips.specs.Starts.{IsStart}
use Rattle.dg_sweep.specs.Common.{StartData, FileFault, OutOfMemory, Question}
use Rattle.dg_sweep.specs.Answers.{AnswersLine, AnswersTableLine}
use Rattle.dg_sweep.specs.Divisors.{LineStandsFor, IsAmountsFault, of_amounts}

abbrev pub TablesHaveOneAnswer : Type 0
TablesHaveOneAnswer =
    (question : Question) (line text other : List ℕ)
    → AnswersTableLine question line text → AnswersTableLine question line other → text ≡ other

abbrev pub AmountsHaveOneAnswer : Type 0
AmountsHaveOneAnswer =
    (question : Question) (o : StartData) (names : List (List ℕ)) (line text other : List ℕ)
    → IsStart o → length names ≡ o.graph.size
    → AnswersLine (of_amounts question o names) line text
    → AnswersLine (of_amounts question o names) line other → text ≡ other

pub record AmountsMeaningIsUnique : Type 0 where
  pub start : (o p r : StartData) (line : List ℕ) → LineStandsFor o line p → LineStandsFor o line r
      → p ≡ r
  pub refused : (o p : StartData) (line : List ℕ) (fault : FileFault) → fault ≢ OutOfMemory
      → IsAmountsFault o.graph.size line fault → ¬ LineStandsFor o line p
  pub fault : (n : ℕ) (line : List ℕ) (one other : FileFault)
      → one ≢ OutOfMemory → other ≢ OutOfMemory → IsAmountsFault n line one
      → IsAmountsFault n line other → one ≡ other
