-- The words are the first one and the one after it.
use Rattle.dg_lines.proofs.Common.{ap, ◌∙◌, ◌∷◌, []}
use Rattle.dg_lines.proofs.Cutting.{pieces_left}
use Rattle.dg_lines.proofs.Keywords.{empty_word, word_more, word_less}
use Rattle.dg_lines.proofs.line.two_words.Goals as goal

pub returns-then-is_empty : goal.returns-then-is_empty
returns-then-is_empty c =
    let next = pieces_left 32 _ _ _ c.cut.result.1 c.in-Some.is c.cut.ensures.before c.cut.ensures.after in
    rw next (empty_word 2 c.cut.result.0.now _ c.if-is_empty.ensures)

pub returns-in-Some-one_word : goal.returns-in-Some-one_word
returns-in-Some-one_word c =
    let next = pieces_left 32 _ _ _ c.cut.result.1 c.in-Some.is c.cut.ensures.before c.cut.ensures.after in (
      word_more 1 c.cut.result.0.now
          (c.in-Some-one_word.second.now ∷ []) c.if-is_empty.ensures c.in-Some-one_word.ensures.0,
      next ∙ ap (λ more. c.cut.result.0.now ∷ more) c.in-Some-one_word.ensures.1,
    )

pub returns-in-None : goal.returns-in-None
returns-in-None c known =
    let next = pieces_left 32 _ _ _ c.cut.result.1 c.in-Some.is c.cut.ensures.before c.cut.ensures.after in
    c.in-None.ensures (word_less 1 c.cut.result.0.now _ (rw next at known))
