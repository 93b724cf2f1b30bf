use Rattle.dg_cli.proofs.Telling.{passes, given_before}
use Rattle.dg_cli.proofs.reading.number_or.Goals as goal

pub returns-in_err-number : goal.returns-in_err-number
returns-in_err-number c = passes _ _ _ _ c.in_err-number.ensures c.from_residual.ensures.1 (given_before _ _ _ _)
