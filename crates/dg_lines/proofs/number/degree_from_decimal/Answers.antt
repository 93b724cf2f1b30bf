-- A number that does not fit is not that of a degree.
use Rattle.dg_lines.proofs.Common.{rules, FitsSigned, w64, to_z-of_z}
use Rattle.dg_lines.proofs.Integers.{other_degree}
use Rattle.dg_lines.proofs.number.degree_from_decimal.Goals as goal

pub returns-in-Err : goal.returns-in-Err
returns-in-Err c =
    let fits : FitsSigned w64 c.in-Some.number = search rules in
    other_degree c.args.text.now c.in-Some.number fits c.in-Some.ensures (rw (to_z-of_z fits) at c.in-Err.ensures)
