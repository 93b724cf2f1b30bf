-- Pieces of bytes, which workers answer in any order.
--   AnswersPiece rule piece text    == the text is the answers to the lines of the piece
--   IsAnswered rule pieces answered == its text is those to the piece at its place
--   LeadsPiece rule front said      == whatever answers the bytes after the front, it answers the front and
--                                       them once what was said is put before it
use Rattle.std.specs.Prelude.{ℕ, List, [], ◌++◌, get_or}
use Rattle.dg_sweep.specs.Answers.{Rule}
use Rattle.dg_sweep.specs.Steps.{AnswersFront}
use Rattle.dg_sweep.specs.declared.workers.PieceAnswer.{PieceAnswer}

abbrev pub AnswersPiece : Rule → List ℕ → List ℕ → Type 0
AnswersPiece rule piece text = (rest : List ℕ) × AnswersFront rule piece rest text

abbrev pub IsAnswered : Rule → List (List ℕ) → PieceAnswer → Type 0
IsAnswered rule pieces answered = AnswersPiece rule (get_or pieces answered.place []) answered.text.items

abbrev pub LeadsPiece : Rule → List ℕ → List ℕ → Type 0
LeadsPiece rule front said = (back rest text : List ℕ) → AnswersFront rule back rest text
    → AnswersFront rule (front ++ back) rest (said ++ text)
