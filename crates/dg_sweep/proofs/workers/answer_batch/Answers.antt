use Rattle.dg_sweep.proofs.Common.{All, map, flat_map, ◌++◌, sym, ap, subst, ◌∙◌, IfOk-weaker, EndsWithNewline, IsAnswered}
use Rattle.dg_sweep.proofs.Pieces.{leads_rest}
use Rattle.dg_sweep.specs.Kinds.{answers_of}
use Rattle.dg_sweep.proofs.workers.answer_batch.Goals as goal

pub push_answers-requires-clause-lines : goal.push_answers-requires-clause-lines
push_answers-requires-clause-lines g c =
    subst (All (λ piece. EndsWithNewline piece.now)) (sym c.deref-2.ensures.value) c.in_ok-pieces.ensures.lines

pub push_answers-requires-clause-done : goal.push_answers-requires-clause-done
push_answers-requires-clause-done g c =
    let right = answers_of c.args.context.now.kind.now in
    subst (All (IsAnswered right (map (λ piece. piece.now) c.deref-2.result.now))) (sym c.deref-3.ensures.value)
    (subst (λ l. All (IsAnswered right (map (λ piece. piece.now) l)) c.in_ok-done.done.items)
    (c.deref.ensures.value ∙ sym c.deref-2.ensures.value) c.in_ok-done.ensures)

pub returns-clause-answered : goal.returns-clause-answered
returns-clause-answered g c =
    let rest = c.in_ok-pieces.rest.now in
    IfOk-weaker c.answer_lines-2.result _ _
    (λ last. leads_rest _ c.args.bytes.now (flat_map (λ piece. piece.now) c.deref-2.result.now) rest last.now
    c.args.text.now.items c.push_answers.new.text.items c.answer_lines-2.new.text.items
    c.in_ok-push_answers.ensures
    (c.in_ok-pieces.ensures.whole
    ∙ ap (λ l. flat_map (λ piece. piece.now) l ++ rest) (sym c.deref-2.ensures.value)))
    c.answer_lines-2.ensures.answered
