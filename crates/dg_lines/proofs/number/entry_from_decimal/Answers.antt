-- A number past the limit is no other number within it.
use Rattle.dg_lines.proofs.Common.{rules, arith, FitsSigned, w64, to_z-of_z}
use Rattle.dg_lines.proofs.Integers.{large_entry}
use Rattle.dg_lines.proofs.number.entry_from_decimal.Goals as goal

pub returns-else-unsigned_abs-le-MAX_ENTRY : goal.returns-else-unsigned_abs-le-MAX_ENTRY
returns-else-unsigned_abs-le-MAX_ENTRY c =
    let fits : FitsSigned w64 c.in-Some.number = search rules in
    let amount = rw (to_z-of_z fits) at c.unsigned_abs.ensures.value in
    large_entry c.args.text.now c.in-Some.number fits c.in-Some.ensures (omega (arith, amount))
