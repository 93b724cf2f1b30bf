use Rattle.dg_cli.proofs.Adding.{one_command, all_commands}
use Rattle.dg_cli.proofs.commands.program_command.Goals as goal

pub commands-preserved : goal.commands-preserved
commands-preserved c =
    one_command _ c.commands.subcommand-index _ c.commands.program c.in_ok-command.command c.in_ok-program-2.program
    c.commands-test.true c.in_ok-program-2.ensures c.in_ok-command.ensures c.commands.invariant

pub returns : goal.returns
returns c = all_commands c.commands.subcommand-index c.commands.program c.commands-test.false c.commands.invariant
