use Rattle.dg_sweep.proofs.Common.{[], ◌++◌, refl, map, get_or, ap, subst, ◌∙◌, All-contains, AnswersPiece, IsAnswered}
use Rattle.dg_sweep.proofs.Pieces.{piece_at}
use Rattle.dg_sweep.specs.Kinds.{answers_of}
use Rattle.dg_sweep.proofs.workers.push_piece_answer.Goals as goal

pub returns-in-Some : goal.returns-in-Some
returns-in-Some g c =
    let right = answers_of c.args.context.now.kind.now in
    let pieces = map (λ piece. piece.now) c.args.pieces.now in
    let (answered, done, here, text) = c.in-Some.ensures in (
      answered.text.items,
      subst (λ place. AnswersPiece right (get_or pieces place []) answered.text.items) here
          (All-contains (IsAnswered right pieces) c.args.done.now answered c.requires.done done),
      c.in_ok-extend_from_slice.ensures.items ∙ ap (λ l. c.args.text.now.items ++ l) text,
    )

pub returns : goal.returns
returns g c =
    let (said, front, same) = c.in_ok-answer_lines.ensures.answered in (
      said,
      piece_at _ c.args.pieces.now c.args.place c.args.place _ said c.requires.place refl (_, front),
      same,
    )
