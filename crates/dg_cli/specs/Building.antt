-- What the library is told.
--   clap_rule_by syntax name == the rule of an argument of that syntax and name
--   clap_rule_for argument   == the rule of an argument
--   shape_for subcommand     == the shape of a command
--   IsArgument rule arg      == the argument is the one of the rule, and of its command alone
--   HasShape shape made      == the command has the shape, and no argument that others share
use Rattle.std.specs.Prelude.{◌≡◌, false, codes}
use Rattle.clap.specs.Words.{Rule, Shape, Text, rule_of, shape_of}
use Rattle.clap.specs.declared.builder.arg.Arg.{Arg}
use Rattle.clap.specs.declared.builder.command.Command.{Command}
use Rattle.clap.specs.declared.builder.command.Command.TheViews.{out-Command as fields_of}
use Rattle.dg_cli.specs.Commands.{flag_argument, greedy_command, judge_command, option_argument, party_command, rank_command, rehearse_command, riemann_roch_command, serve_command, word_argument, words_argument}
use Rattle.dg_cli.specs.declared.arguments.Argument.{Argument}
use Rattle.dg_cli.specs.declared.arguments.Argument.TheVariants as argument
use Rattle.dg_cli.specs.declared.arguments.Syntax.{Syntax}
use Rattle.dg_cli.specs.declared.arguments.Syntax.TheVariants as syntax
use Rattle.dg_cli.specs.declared.commands.Subcommand.{Subcommand}
use Rattle.dg_cli.specs.declared.commands.Subcommand.TheVariants as subcommand

abbrev pub clap_rule_by : Syntax → Text → Rule
clap_rule_by syntax.Word name = word_argument name
clap_rule_by syntax.Words name = words_argument name
clap_rule_by syntax.Option name = option_argument name
clap_rule_by syntax.Flag name = flag_argument name

abbrev pub clap_rule_for : Argument → Rule
clap_rule_for argument.File = word_argument (codes "file")
clap_rule_for argument.Steps = word_argument (codes "steps")
clap_rule_for argument.Scripts = words_argument (codes "script")
clap_rule_for argument.Degree = word_argument (codes "degree")
clap_rule_for argument.Turns = word_argument (codes "turns")
clap_rule_for argument.Lines = flag_argument (codes "lines")
clap_rule_for argument.Divisors = option_argument (codes "divisors")
clap_rule_for argument.Order = flag_argument (codes "order")
clap_rule_for argument.Numbers = flag_argument (codes "numbers")
clap_rule_for argument.Seats = option_argument (codes "seats")
clap_rule_for argument.Capacity = option_argument (codes "cap")
clap_rule_for argument.Workers = option_argument (codes "workers")
clap_rule_for argument.RankWorkers = option_argument (codes "workers")
clap_rule_for argument.LineWorkers = option_argument (codes "workers")

abbrev pub shape_for : Subcommand → Shape
shape_for subcommand.Judge = judge_command
shape_for subcommand.Rank = rank_command
shape_for subcommand.RiemannRoch = riemann_roch_command
shape_for subcommand.Greedy = greedy_command
shape_for subcommand.Rehearse = rehearse_command
shape_for subcommand.Serve = serve_command
shape_for subcommand.Party = party_command

pub record IsArgument (rule : Rule) (arg : Arg) : Type 0 where
  pub reads : rule_of arg ≡ rule
  pub own : arg.global ≡ false

pub record HasShape (shape : Shape) (made : Command) : Type 0 where
  pub reads : shape_of made ≡ shape
  pub own : (fields_of made).has_globals ≡ false
