-- The commands of the program and their arguments, as the library of command lines has them. An
-- argument goes by its name, which is also the word of an option or a flag after `--`.
--   word_argument name           == a word that has to be there
--   words_argument name          == one word or more, after all others
--   option_argument name         == `--name` with a word that is its value
--   flag_argument name           == `--name` alone
--   command_shape name arguments == the command of that name
--   judge_command, rank_command, riemann_roch_command, greedy_command, rehearse_command, serve_command, party_command == the
--                                   seven commands
--   bare_program                 == the program without its commands: it has a version, one of them has to be
--                                   named, and `help` is none of them
--   dollar                       == the program
use Rattle.std.specs.Prelude.{List, [], ◌∷◌, Some, true, false, codes}
use Rattle.clap.specs.Lexer.{usize_max}
use Rattle.clap.specs.Simple.{new_shape}
use Rattle.clap.specs.Words.{App, Rule, Shape, Text, new_rule}
use Rattle.clap.specs.declared.builder.action.ArgAction.TheVariants.{SetTrue}

abbrev pub word_argument : Text → Rule
word_argument name = record (new_rule name) { value_names = 1; required = true }

abbrev pub words_argument : Text → Rule
words_argument name =
    record (word_argument name) { range = Some (record { start_inclusive = 1; end_inclusive = usize_max }) }

abbrev pub option_argument : Text → Rule
option_argument name = record (new_rule name) { long = Some name; value_names = 1 }

abbrev pub flag_argument : Text → Rule
flag_argument name = record (new_rule name) { long = Some name; action = Some SetTrue }

abbrev pub command_shape : Text → List Rule → Shape
command_shape name arguments = record (new_shape name) { rules = arguments }

abbrev pub judge_command : Shape
judge_command = command_shape (codes "judge")
    (word_argument (codes "file") ∷ flag_argument (codes "lines") ∷ option_argument (codes "divisors")
    ∷ flag_argument (codes "order") ∷ flag_argument (codes "numbers") ∷ option_argument (codes "workers") ∷ [])

abbrev pub rank_command : Shape
rank_command = command_shape (codes "rank")
    (word_argument (codes "file") ∷ flag_argument (codes "lines") ∷ option_argument (codes "divisors")
    ∷ flag_argument (codes "numbers") ∷ word_argument (codes "degree") ∷ option_argument (codes "workers") ∷ [])

abbrev pub riemann_roch_command : Shape
riemann_roch_command = command_shape (codes "rr")
    (word_argument (codes "file") ∷ flag_argument (codes "lines") ∷ option_argument (codes "divisors")
    ∷ flag_argument (codes "numbers") ∷ option_argument (codes "workers") ∷ [])

abbrev pub greedy_command : Shape
greedy_command = command_shape (codes "greedy") (word_argument (codes "file") ∷ word_argument (codes "turns") ∷ [])

abbrev pub rehearse_command : Shape
rehearse_command = command_shape (codes "rehearse") (word_argument (codes "file") ∷ word_argument (codes "steps") ∷ [])

abbrev pub serve_command : Shape
serve_command = command_shape (codes "serve")
    (word_argument (codes "file") ∷ option_argument (codes "seats") ∷ option_argument (codes "cap")
    ∷ option_argument (codes "workers") ∷ [])

abbrev pub party_command : Shape
party_command = command_shape (codes "party")
    (word_argument (codes "file") ∷ words_argument (codes "script") ∷ option_argument (codes "cap") ∷ [])

abbrev pub bare_program : App
bare_program = record {
  top = record (new_shape (codes "dollar")) {
    has_version = true;
    subcommand_required = true;
    arg_required_else_help = true;
    disable_help_subcommand = true;
  };
  subs = [];
}

unfoldable pub dollar : App
dollar = record {
  top = record bare_program.top { is_leaf = false };
  subs = judge_command ∷ rank_command ∷ riemann_roch_command ∷ greedy_command ∷ rehearse_command
      ∷ serve_command ∷ party_command ∷ [];
}
