use Rattle.dg_cli.proofs.Adding.{HasCommands}
use Rattle.dg_cli.proofs.commands.program_command.Given as goal

abbrev pub invariant-commands : goal.invariant-commands
invariant-commands l = HasCommands l.subcommand-items l.subcommand-index l.program
