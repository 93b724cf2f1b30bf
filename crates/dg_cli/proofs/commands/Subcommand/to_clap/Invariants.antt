use Rattle.dg_cli.proofs.Common.{shape_for}
use Rattle.dg_cli.proofs.Adding.{HasArguments}
use Rattle.dg_cli.proofs.commands.Subcommand.to_clap.Given as goal

abbrev pub invariant-arguments : goal.invariant-arguments
invariant-arguments l = HasArguments (shape_for l.fn.self).name l.argument-items l.argument-index l.command
