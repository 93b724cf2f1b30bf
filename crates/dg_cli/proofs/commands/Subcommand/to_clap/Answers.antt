use Rattle.dg_cli.proofs.Common.{ap, refl, ◌∙◌, app_of_fields, new_app, Command-F, Command}
use Rattle.dg_cli.proofs.Adding.{no_argument, one_argument, all_arguments}
use Rattle.dg_cli.proofs.commands.Subcommand.to_clap.Goals as goal

pub arguments-init : goal.arguments-init
arguments-init c =
    no_argument _ _ _
    (ap app_of_fields c.after_help-command.ensures ∙ ap app_of_fields c.about-2.ensures ∙ c.new.ensures.app
    ∙ ap new_app c.name.ensures)
    (ap (λ (f : Command-F Command). f.has_globals) c.after_help-command.ensures
    ∙ ap (λ (f : Command-F Command). f.has_globals) c.about-2.ensures ∙ c.new.ensures.local)

pub arguments-preserved : goal.arguments-preserved
arguments-preserved c =
    one_argument _ _ c.arguments.argument-index _ c.arguments.command c.in_ok-command.command c.to_clap.result
    c.arguments-test.true c.in_ok-command.ensures c.to_clap.ensures c.arguments.invariant

pub returns : goal.returns
returns c =
    all_arguments c.args.self _ _ c.arguments.argument-index c.arguments.command refl c.arguments-argument-items.ensures
    c.arguments-test.false c.arguments.invariant
