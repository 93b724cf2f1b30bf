-- Behind a space there are words, and so not none.
use Rattle.dg_lines.proofs.Keywords.{some_words}
use Rattle.dg_lines.proofs.line.words_of.Goals as goal

pub returns-in-Some : goal.returns-in-Some
returns-in-Some c known =
    let counted = rw c.in-0.is at known in
    some_words c.args.rest c.in-Some.field-0 c.in-Some.is counted.count
