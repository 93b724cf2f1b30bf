use Rattle.dg_cli.proofs.Parsing.{refuses}
use Rattle.dg_cli.proofs.command_line.invocation_of.Goals as goal

pub returns-in-Err-clause-refused : goal.returns-in-Err-clause-refused
returns-in-Err-clause-refused c = refuses _ _ c.help_or_error.result c.in-Err.ensures.refused c.help_or_error.ensures
