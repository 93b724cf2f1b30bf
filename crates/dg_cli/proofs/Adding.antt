-- A command with its arguments, and the program with its commands, one after another.
--   added step a xs                == a after the steps by each of xs
--   HasArguments name texts i made == the command of that name has the first i of the arguments
--   HasCommands texts i program    == the program has the first i of the commands
--   no_argument, one_argument   a new command has no argument, and then one more
--   all_arguments               with all its arguments it is the command
--   no_command, one_command     the bare program has no command, and then one more
--   all_commands                with all its commands it is the program
use Rattle.dg_cli.proofs.Common.{◌≡◌, ℕ, ◌+◌, ◌<◌, ◌≤◌, ◌||◌, List, [], ◌∷◌, ◌++◌, length, map, take, get_or, false, refl, sym, ap, ap₂, ◌∙◌, append_assoc, append-nil, map-append, take_more, take_all, AddsArg, AddsSubcommand, App, Rule, Text, app_of, new_app, with_rule, with_subcommand, on_top, Arg, Command, IsArgument, HasShape, clap_rule_for, shape_for, bare_program, command_shape, Argument, Subcommand}
use Rattle.clap.specs.declared.builder.command.Command.TheViews.{out-Command as fields_of}
use Rattle.dg_cli.specs.Commands.{dollar}
use Rattle.dg_cli.specs.declared.commands.Subcommand.TheVariants as subcommand

module _ {X : Type 0} (step : App → X → App) where
  abbrev pub added : App → List X → App
  added a [] = a
  added a (x ∷ xs) = added (step a x) xs

  added_more : (a : App) (xs : List X) (x : X) → added a (xs ++ x ∷ []) ≡ step (added a xs) x
  added_more a [] x = refl
  added_more a (y ∷ xs) x = added_more (step a y) xs x

-- the first things and one more, each by what it stands for
one_more : {T X : Type 0} (f : T → X) (things : List T) (i : ℕ) (d : T) → i < length things →
    map f (take (i + 1) things) ≡ map f (take i things) ++ f (get_or things i d) ∷ []
one_more f things i d within =
    ap (map f) (take_more things i d within) ∙ map-append f (take i things) (get_or things i d ∷ [])

pub record HasArguments (name : Text) (texts : List Argument) (i : ℕ) (made : Command) : Type 0 where
  pub reads : app_of made ≡ added with_rule (new_app name) (map clap_rule_for (take i texts))
  pub own : (fields_of made).has_globals ≡ false

pub no_argument : (name : Text) (texts : List Argument) (made : Command) → app_of made ≡ new_app name →
    (fields_of made).has_globals ≡ false → HasArguments name texts 0 made
no_argument name texts made reads own = record { reads = reads; own = own }

pub one_argument : (name : Text) (arguments : List Argument) (i : ℕ) (d : Argument) (old new : Command) (a : Arg) →
    i < length arguments → AddsArg old a new → IsArgument (clap_rule_for (get_or arguments i d)) a →
    HasArguments name arguments i old → HasArguments name arguments (i + 1) new
one_argument name arguments i d old new a within adds argument has = record {
  reads = adds.shape argument.own ∙ ap₂ with_rule has.reads argument.reads
      ∙ sym (added_more with_rule (new_app name) (map clap_rule_for (take i arguments)) (clap_rule_for (get_or arguments i d)))
      ∙ ap (added with_rule (new_app name)) (sym (one_more clap_rule_for arguments i d within));
  own = adds.globals ∙ ap₂ (λ x y. x || y) has.own argument.own;
}

all_rules : (a : App) (rules : List Rule) → added with_rule a rules ≡ on_top
    (λ s. record s { rules = s.rules ++ rules }) a
all_rules a [] = ap (λ l. on_top (λ s. record s { rules = l }) a) (sym (append-nil a.top.rules))
all_rules a (r ∷ rules) =
    all_rules (with_rule a r) rules
    ∙ ap (λ l. on_top (λ s. record s { rules = l }) a) (append_assoc a.top.rules (r ∷ []) rules)

shape_whole : (s : Subcommand) → command_shape (shape_for s).name (shape_for s).rules ≡ shape_for s
shape_whole subcommand.Judge = refl
shape_whole subcommand.Rank = refl
shape_whole subcommand.RiemannRoch = refl
shape_whole subcommand.Greedy = refl
shape_whole subcommand.Rehearse = refl
shape_whole subcommand.Serve = refl
shape_whole subcommand.Party = refl

pub all_arguments : (s : Subcommand) (name : Text) (texts : List Argument) (i : ℕ) (made : Command) →
    name ≡ (shape_for s).name → map clap_rule_for texts ≡ (shape_for s).rules → length texts ≤ i →
    HasArguments name texts i made → HasShape (shape_for s) made
all_arguments s name texts i made named rules all has = record {
  reads = ap (λ (a : App). a.top) (has.reads
      ∙ ap (λ l. added with_rule (new_app name) (map clap_rule_for l)) (take_all i texts all)
      ∙ all_rules (new_app name) (map clap_rule_for texts)) ∙ ap₂ command_shape named rules ∙ shape_whole s;
  own = has.own;
}

abbrev pub HasCommands : List Subcommand → ℕ → Command → Type 0
HasCommands texts i program =
    app_of program ≡ added with_subcommand bare_program (map shape_for (take i texts))

pub one_command : (commands : List Subcommand) (i : ℕ) (d : Subcommand) (old sub new : Command) → i < length commands →
    AddsSubcommand old sub new → HasShape (shape_for (get_or commands i d)) sub → HasCommands commands i old →
    HasCommands commands (i + 1) new
one_command commands i d old sub new within adds made has =
    adds.shape made.own ∙ ap₂ with_subcommand has made.reads
    ∙ sym (added_more with_subcommand bare_program (map shape_for (take i commands)) (shape_for (get_or commands i d)))
    ∙ ap (added with_subcommand bare_program) (sym (one_more shape_for commands i d within))

abbrev pub every : List Subcommand
every =
    subcommand.Judge ∷ subcommand.Rank ∷ subcommand.RiemannRoch ∷ subcommand.Greedy ∷ subcommand.Rehearse
    ∷ subcommand.Serve ∷ subcommand.Party ∷ []

pub all_commands : (i : ℕ) (program : Command) → 7 ≤ i → HasCommands every i program → app_of program ≡ dollar
unfolding dollar
all_commands i program all has =
    has ∙ ap (λ l. added with_subcommand bare_program (map shape_for l)) (take_all i every all)
