-- How a sweep ends. `stream` is what was read, and `ended` says that no more is to come; `old` and
-- `new` are what the writer held, if that is known.
--   EndsAfter ended stream ls result        == what each end says, if just the lines ls are answered:
--                                              they are all, and no more are to come; or, if reading
--                                              failed, all whole lines
--   WritesAnswers result old new said text  == the writer took what was said and the text, or, if it took
--                                              no more, all that was said and a front of the text
--   IsSweep rule input rest old new result == a sweep is over. A stream was read, by which the reader's
--                                              bytes, if known, have become the rest. The lines of `told`
--                                              are answered by what was said, and then those of `last` by
--                                              the text; these are no more than the bytes of one read
use Rattle.std.specs.Prelude.{◌≡◌, ℕ, ◌≤◌, List, ◌++◌, length, Option, Result, Ok, Err, ⊤}
use Rattle.std.specs.Io.KnownBytes.{Appends, Consumes, IsAtEnd}
use Rattle.dg_sweep.specs.Common.{lines, HasNoNewline, BeginsWithLines, LinesHaveCome, AppendsFront}
use Rattle.dg_sweep.specs.Answers.{AnswersLines, Rule}
use Rattle.dg_sweep.specs.declared.ends.TheConstants.{READ_SIZE}
use Rattle.dg_sweep.specs.declared.ends.SweepEnd.{SweepEnd}
use Rattle.dg_sweep.specs.declared.ends.SweepEnd.TheVariants.{Read, Write}

abbrev pub EndsAfter : Type 0 → List ℕ → List (List ℕ) → Result (Unit {0}) SweepEnd → Type 0
EndsAfter ended stream ls (Ok done) = ended × (ls ≡ lines stream)
EndsAfter ended stream ls (Err Read) =
    (rest : List ℕ) × BeginsWithLines HasNoNewline stream ls rest × HasNoNewline rest
EndsAfter ended stream ls (Err end) = ⊤

abbrev pub WritesAnswers : Result (Unit {0}) SweepEnd → Option (List ℕ) → Option (List ℕ) → List ℕ
    → List ℕ → Type 0
WritesAnswers (Err Write) old new said text = AppendsFront old new said text
WritesAnswers result old new said text = Appends old new (said ++ text)

pub record IsSweep (rule : Rule) (input rest : Option (List ℕ)) (old new : Option (List ℕ))
    (result : Result (Unit {0}) SweepEnd) : Type 0 where
  pub stream : List ℕ
  pub read : Consumes input rest stream
  pub told : List (List ℕ)
  pub last : List (List ℕ)
  pub came : LinesHaveCome HasNoNewline (IsAtEnd rest) stream (told ++ last)
  pub few : length last ≤ READ_SIZE
  pub said : List ℕ
  pub text : List ℕ
  pub first : AnswersLines rule told said
  pub second : AnswersLines rule last text
  pub written : WritesAnswers result old new said text
  pub ends : EndsAfter (IsAtEnd rest) stream (told ++ last) result
