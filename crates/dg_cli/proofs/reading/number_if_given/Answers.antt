use Rattle.dg_cli.proofs.Common.{◌∙◌, ap, word_of, argument_rows}
use Rattle.dg_cli.proofs.Telling.{passes, number_before}
use Rattle.dg_cli.proofs.reading.number_if_given.Goals as goal

pub returns-in_err-parse_number-in-Some : goal.returns-in_err-parse_number-in-Some
returns-in_err-parse_number-in-Some c =
    let is = c.in-Some.ensures ∙ ap (λ name. word_of name (argument_rows c.args.inner.now)) c.name.ensures in
    passes _ _ _ _ c.in_err-parse_number-in-Some.ensures c.from_residual.ensures.1 (number_before _ _ _ _ is)
