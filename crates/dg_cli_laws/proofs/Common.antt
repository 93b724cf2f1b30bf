-- The names that the proofs of this crate cite, passed on from one place. Declares nothing.
pub use Rattle.clap.specs.Facts.{parser_of_value, unwrap_or_range}
pub use Rattle.clap.specs.Faults.{action_fault, built_fault, bundle_step_fault, count_fault, default_fault, entered_fault, fault_of, flag_word_fault, level_fault, long_fault, option_fault, other_fault, react_fault, set_fault, settle_fault, short_fault, step_fault, turn_fault, use_fault}
pub use Rattle.clap.specs.Kinds.{IsAmong, Kinds, check_kinds, or_else, range_kinds, request_kinds, value_kinds, values_kinds}
pub use Rattle.clap.specs.Lexer.{long_of, short_of}
pub use Rattle.clap.specs.Simple.{App, Shape, argument_words, built, label_of, names_of}
pub use Rattle.clap.specs.ValueTests.{accepts}
pub use Rattle.clap.specs.Values.{refused_kind}
pub use Rattle.clap.specs.Walk.{Held, Names, Row, Rule, Step, Text, Waiting, Walk, action_of, answers_to, arg_by_id, arg_by_index, arg_by_long, arg_by_short, attached_value, has_row, is_pending, most_values, nothing_held, reacted, settled, subcommand_met, takes_several, takes_values, values_or_missing, walk, walk_from, walked, with_default, word_met}
pub use Rattle.clap.specs.Words.{subcommand_of}
pub use Rattle.clap.specs.declared.builder.action.ArgAction.{ArgAction}
pub use Rattle.clap.specs.declared.builder.action.ArgAction.TheVariants.{Append, Count, Help, HelpLong, HelpShort, Set, SetFalse, SetTrue, Version}
pub use Rattle.clap.specs.declared.builder.value_parser.ValueParser.{ValueParser}
pub use Rattle.clap.specs.declared.error.kind.ErrorKind.{ErrorKind}
pub use Rattle.dg_cli.specs.Asks.{Asks, AsksFor, AsksQuestion, CallsForHelp, HasOneTable, HasFormFlag, HasVerdictFlags, HasOrder, HasLinesOption, divisors_option, word_of, words_of}
pub use Rattle.dg_cli.specs.Numbers.{IsGiven, IsGivenOr, IsNumberIn}
pub use Rattle.dg_cli.specs.Refusals.{HasClapFault, IsArgsFault}
pub use Rattle.dg_cli_laws.specs.OneMeaning.{MeaningIsUnique, form_as_written, lines_as_written, order_as_written, question_as_written, seats_as_written, verdict_as_written, written}
pub use Rattle.dg_invocation.specs.declared.invocation.Invocation.{Invocation}
pub use Rattle.dg_invocation.specs.declared.limits.TheConstants.{MAX_CAPACITY}
pub use Rattle.dg_invocation.specs.declared.args_fault.ArgsFault.{ArgsFault}
pub use Rattle.dg_invocation.specs.declared.args_fault.ArgsFault.TheVariants.{CommandLine, NotText, OutOfMemory}
pub use Rattle.dg_invocation.specs.declared.question.Form.{Form}
pub use Rattle.dg_invocation.specs.declared.question.Question.{Question}
pub use Rattle.dg_invocation.specs.declared.question.Question.TheVariants.{Judge, Rank, RiemannRoch}
pub use Rattle.dg_invocation.specs.declared.question.VerdictForm.{VerdictForm}
pub use Rattle.std.proofs.Common.{Bool, IsSomeAnd, List, None, Option, Some, [], ap, codes, cond, decimal, false, inl, inr, length, map, not, refl, subst, suc, sym, true, true≢false, zero, ℕ, ◌&&◌, ◌*◌, ◌++◌, ◌+◌, ◌∙◌, ◌∷◌, ◌≡◌, ◌⊎◌}
pub use Rattle.std.proofs.lemmas.Slice.Eq.{bytes_eq-Decides}
pub use Rattle.std.specs.Option.{option_map_or}
pub use Rattle.std.specs.Prelude.{if◌then◌else◌, find, is_some, nat_lt, slice_get, slice_index, unwrap_or, ◌==◌}
pub use Rattle.std.specs.Str.{bytes_eq, chars}
