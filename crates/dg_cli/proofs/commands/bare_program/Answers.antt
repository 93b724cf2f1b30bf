use Rattle.dg_cli.proofs.Common.{◌∙◌, ap, true, app_of_fields, on_top}
use Rattle.std.proofs.lemmas.Result.{IfOk-weaker}
use Rattle.dg_cli.proofs.commands.bare_program.Goals as goal

pub returns : goal.returns
returns c =
    let named = ap app_of_fields c.about.ensures ∙ c.new.ensures.app in
    let versioned = ap app_of_fields c.version.ensures ∙ ap (on_top (λ s. record s { has_version = true })) named in
    let told = ap app_of_fields c.after_help.ensures ∙ versioned in
    let helpless = ap app_of_fields c.disable_help_subcommand.ensures ∙ ap (on_top (λ s. record s {
      disable_help_subcommand =
          true;
    })) told in
    let required = ap app_of_fields c.subcommand_required.ensures ∙ ap (on_top (λ s. record s {
      subcommand_required =
          true;
    })) helpless in
    let whole = ap app_of_fields c.arg_required_else_help-program.ensures ∙ ap (on_top (λ s. record s {
      arg_required_else_help =
          true;
    })) required in
    IfOk-weaker c.bin_name.result _ _ (λ program named. ap app_of_fields named.0 ∙ whole) c.bin_name.ensures
