-- The words are the first one and those after it.
use Rattle.dg_lines.proofs.Common.{List, ℕ, Option, Bor, ap, ◌∙◌, ◌∷◌, [], arith, option_copied, words_after}
use Rattle.dg_lines.proofs.Cutting.{pieces_left}
use Rattle.dg_lines.proofs.Keywords.{empty_word, some_words, word_more, none_there}
use Rattle.dg_lines.proofs.line.one_word.Goals as goal

pub returns-then-is_empty : goal.returns-then-is_empty
returns-then-is_empty c =
    let next = pieces_left 32 _ _ _ c.cut.result.1 c.in-Some.is c.cut.ensures.before c.cut.ensures.after in
    rw next (empty_word 1 c.cut.result.0.now _ c.if-is_empty.ensures)

pub returns-in-None : goal.returns-in-None
returns-in-None c =
    let next = pieces_left 32 _ _ _ c.cut.result.1 c.in-Some.is c.cut.ensures.before c.cut.ensures.after in (
      word_more 0 c.cut.result.0.now [] c.if-is_empty.ensures none_there,
      next ∙ ap (λ (o : Option (Bor (List ℕ))). c.cut.result.0.now ∷ words_after (option_copied o)) c.in-None.is,
    )

pub returns-in-Some-more : goal.returns-in-Some-more
returns-in-Some-more c known =
    let next = pieces_left 32 _ _ _ c.cut.result.1 c.in-Some.is c.cut.ensures.before c.cut.ensures.after in
    let counted = rw next at known in
    some_words c.cut.result.1 c.in-Some-more.field-0 c.in-Some-more.is (omega (arith, counted.count))
