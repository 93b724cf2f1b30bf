-- The names that the proofs of this crate cite, passed on from one place. Declares nothing.
pub use Rattle.clap.proofs.WalkLemmas.{first_value-rows, raw_values-rows}
pub use Rattle.clap.specs.Simple.{app_of_fields, on_top}
pub use Rattle.clap.specs.Words.{AddsArg, AddsSubcommand, App, HasKind, IsAmong, Kinds, Row, Rule, Text, app_of, fault_of, found_of, is_simple, is_simple_and_free, kind_of, new_app, subcommand_of, with_rule, with_subcommand}
pub use Rattle.clap.specs.declared.builder.arg.Arg.{Arg}
pub use Rattle.clap.specs.declared.builder.command.Command.{Command}
pub use Rattle.clap.specs.declared.builder.command.Command.TheOpen.{Command-F}
pub use Rattle.clap.specs.declared.error.Error.{Error}
pub use Rattle.clap.specs.declared.error.kind.ErrorKind.{ErrorKind}
pub use Rattle.dg_cli.specs.Asks.{Asks, AsksFor, word_of}
pub use Rattle.dg_cli.specs.Building.{IsArgument, HasShape, clap_rule_for, shape_for}
pub use Rattle.dg_cli.specs.Commands.{bare_program, command_shape}
pub use Rattle.dg_cli.specs.Faults.{IsErrorText, HasErrorKind}
pub use Rattle.dg_cli.specs.Numbers.{IsGiven, IsGivenOr, IsNumberIn}
pub use Rattle.dg_cli.specs.Refusals.{AskNothing, IsArgsFault}
pub use Rattle.dg_cli.specs.Telling.{TellsInvocation, least_of_argument, most_of_argument, argument_rows}
pub use Rattle.dg_cli.specs.declared.arguments.Argument.{Argument}
pub use Rattle.dg_cli.specs.declared.commands.Subcommand.{Subcommand}
pub use Rattle.dg_cli.specs.declared.reading.NumberArgument.{NumberArgument}
pub use Rattle.dg_cli.specs.declared.reading.NumberArgument.TheVariants.{Capacity, Degree, Seats, Turns, Workers}
pub use Rattle.dg_cli.specs.declared.reading.Refusal.{Refusal}
pub use Rattle.dg_invocation.specs.declared.invocation.Invocation.{Invocation}
pub use Rattle.dg_invocation.specs.declared.args_fault.ArgsFault.{ArgsFault}
pub use Rattle.dg_invocation.specs.declared.args_fault.ArgsFault.TheVariants.{CommandLine, NotText, OutOfMemory}
pub use Rattle.std.proofs.Common.{Err, IfErr, IsErrAnd, IsSomeAnd, List, None, Ok, Option, Result, Some, [], ap, append-nil, append_assoc, ap₂, arith, decimal, false, get_or, inl, inr, is_some, length, map, refl, subst, sym, take, true, true≢false, ℕ, ◌++◌, ◌+◌, ◌<◌, ◌^◌, ◌||◌, ◌∙◌, ◌∷◌, ◌≡◌, ◌≢◌, ◌≤◌, ◌⊎◌}
pub use Rattle.std.proofs.lemmas.Fmt.{decimal_injective}
pub use Rattle.std.proofs.lemmas.List.{map-append, take_all, take_more}
pub use Rattle.std.specs.Borrow.{Bor}
pub use Rattle.std.specs.Option.{ok_or}
pub use Rattle.std.specs.Prelude.{option_map}
