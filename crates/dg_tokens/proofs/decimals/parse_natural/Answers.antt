-- A text that is refused is the decimal of no number.
use Rattle.dg_tokens.proofs.Common.{◌∙◌}
use Rattle.dg_tokens.proofs.NoDecimals.{no_utf8, no_number, no_decimal}
use Rattle.dg_tokens.proofs.decimals.parse_natural.Goals as goal

pub returns-in_default : goal.returns-in_default
returns-in_default c = no_utf8 c.args.text.now c.in_default.ensures.cases.0

pub returns-in_default-parse : goal.returns-in_default-parse
returns-in_default-parse c =
    no_number c.in-Ok.written.now c.args.text.now c.in_default-parse.field-0 c.in-Ok.ensures.cases.0
    c.in_default-parse.ensures.value.0

pub returns-else-eq : goal.returns-else-eq
returns-else-eq c =
    no_decimal c.in-Ok.written.now c.args.text.now c.as_bytes.result.now c.in-Ok-parse.number c.parse.result
    c.in-Ok.ensures.cases.0 c.parse.ensures.value.0 c.in-Ok-parse.is (c.as_bytes.ensures.value
    ∙ c.format.ensures.text) c.if-eq.ensures
