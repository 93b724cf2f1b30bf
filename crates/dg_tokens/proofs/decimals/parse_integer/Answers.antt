-- A text that is refused is the decimal of no number.
use Rattle.dg_tokens.proofs.Common.{FitsSigned, w64, rules, to_z-of_z}
use Rattle.dg_tokens.proofs.Signs.{integer_found, integer_none, integer_lost, none_left, some_left}
use Rattle.dg_tokens.proofs.decimals.parse_integer.Goals as goal

pub returns-in_default : goal.returns-in_default
returns-in_default c = integer_none _ c.in_default.ensures

pub returns-then-is_empty : goal.returns-then-is_empty
returns-then-is_empty c =
    let fits : FitsSigned w64 c.in-Some.number = search rules in
    rw (to_z-of_z fits) (integer_found _ _ _ c.in-Some.ensures (none_left _ c.if-is_empty.ensures))

pub returns-else-is_empty : goal.returns-else-is_empty
returns-else-is_empty c =
    let fits : FitsSigned w64 c.in-Some.number = search rules in
    integer_lost _ _ _ fits c.in-Some.ensures (some_left _ c.if-is_empty.ensures)
