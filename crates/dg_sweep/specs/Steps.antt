-- The steps of a sweep. What is pending stands for the part of a line that was read last.
--   StandsForPart pending part          == the part has no newline, and it is what is pending, or both
--                                          are longer than a line may be
--   KeepsPart old part new              == the part is put after what is pending, if that is no longer
--                                          than a line may be; else nothing is
--   AnswersFront rule bytes rest text  == the bytes are lines, each with its newline, and then the
--                                          rest, which has none; and the text is the answers to the
--                                          lines
--   EndsWithNewline bytes               == the last of the bytes is a newline
--   TakesBytes rule old bytes new text == whatever part of a line was pending, it and the bytes are
--                                          lines and then a part of a line, which then is pending; there
--                                          are no more lines than bytes; and the text is their answers
--   AnswersLast rule pending text      == whatever part of a line was pending, it is the last line, if
--                                          it has a byte, and the text its answer
--   PassesAnswers T old new result      == such a text, of which T holds, was written; or memory or a
--                                          thread was refused, and nothing was written; or a front of it
--                                          was written, and the writer took no more
use Rattle.std.specs.Prelude.{◌≡◌, ℕ, ◌<◌, ◌≤◌, ◌⊎◌, List, [], ◌∷◌, ◌++◌, length, Option, Result, Ok, Err}
use Rattle.std.specs.Io.KnownBytes.{Appends}
use Rattle.dg_sweep.specs.Common.{HasNoNewline, BeginsWithLines, last_line, AppendsFront}
use Rattle.dg_sweep.specs.Answers.{AnswersLines, Rule}
use Rattle.dg_sweep.specs.declared.ends.TheConstants.{MAX_LINE}
use Rattle.dg_sweep.specs.declared.ends.SweepEnd.{SweepEnd}
use Rattle.dg_sweep.specs.declared.ends.SweepEnd.TheVariants.{Read, Write, Shortage}

pub record StandsForPart (pending part : List ℕ) : Type 0 where
  pub no_newline : HasNoNewline part
  pub same : (pending ≡ part) ⊎ ((MAX_LINE < length pending) × (MAX_LINE < length part))

abbrev pub KeepsPart : List ℕ → List ℕ → List ℕ → Type 0
KeepsPart old part new =
    ((length old ≤ MAX_LINE) × (new ≡ old ++ part)) ⊎ ((MAX_LINE < length old) × (new ≡ old))

pub record AnswersFront (rule : Rule) (bytes rest text : List ℕ) : Type 0 where
  pub ls : List (List ℕ)
  pub cut : BeginsWithLines HasNoNewline bytes ls rest
  pub no_newline : HasNoNewline rest
  pub few : length ls ≤ length bytes
  pub answers : AnswersLines rule ls text

abbrev pub EndsWithNewline : List ℕ → Type 0
EndsWithNewline bytes = (front : List ℕ) × (bytes ≡ front ++ 10 ∷ [])

pub record Taken (rule : Rule) (bytes new text : List ℕ) (n : ℕ) : Type 0 where
  pub ls : List (List ℕ)
  pub part : List ℕ
  pub cut : BeginsWithLines HasNoNewline bytes ls part
  pub stands : StandsForPart new part
  pub few : length ls ≤ n
  pub answers : AnswersLines rule ls text

abbrev pub TakesBytes : Rule → List ℕ → List ℕ → List ℕ → List ℕ → Type 0
TakesBytes rule old bytes new text =
    (part : List ℕ) → StandsForPart old part → Taken rule (part ++ bytes) new text (length bytes)

abbrev pub AnswersLast : Rule → List ℕ → List ℕ → Type 0
AnswersLast rule pending text = (part : List ℕ) → StandsForPart pending part
    → AnswersLines rule (last_line part) text

abbrev pub PassesAnswers : (List ℕ → Type 0) → Option (List ℕ) → Option (List ℕ)
    → Result (Unit {0}) SweepEnd → Type 0
PassesAnswers T old new (Ok done) = (text : List ℕ) × T text × Appends old new text
PassesAnswers T old new (Err Write) = (text : List ℕ) × T text × AppendsFront old new [] text
PassesAnswers T old new (Err (Shortage lack)) = Appends old new []
PassesAnswers T old new (Err Read) = ⊥
