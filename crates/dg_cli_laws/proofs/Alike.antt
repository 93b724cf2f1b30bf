-- The kinds of error that words may give. Those at one place are all calls for help or for the version, or none of them is.
--   AreAlike ks      == the kinds ks are so
--   alike            of the program's commands, for any words
use Rattle.dg_cli_laws.proofs.Common.{if◌then◌else◌, ◌≡◌, ◌∙◌, ◌⊎◌, ◌&&◌, ℕ, zero, suc, Bool, true, false, not, List, [], ◌∷◌, length, Option, None, Some, inl, inr, refl, sym, ap, nat_lt, find, is_some, slice_get, ◌==◌, option_map_or, bytes_eq, chars, long_of, short_of, parser_of_value, unwrap_or_range, accepts, refused_kind, Held, Names, Row, Rule, Step, Text, Waiting, Walk, action_of, answers_to, arg_by_id, arg_by_index, arg_by_long, arg_by_short, attached_value, has_row, is_pending, most_values, nothing_held, reacted, settled, subcommand_met, takes_several, takes_values, values_or_missing, walk, walk_from, walked, with_default, word_met, App, Shape, argument_words, built, label_of, names_of, IsAmong, Kinds, check_kinds, or_else, range_kinds, request_kinds, value_kinds, values_kinds, action_fault, built_fault, bundle_step_fault, count_fault, default_fault, entered_fault, fault_of, flag_word_fault, level_fault, long_fault, option_fault, other_fault, react_fault, set_fault, settle_fault, short_fault, step_fault, turn_fault, use_fault, ArgAction, Set, Append, SetTrue, SetFalse, Count, Help, HelpShort, HelpLong, Version, ValueParser, ErrorKind}
use Rattle.clap.specs.Faults.{defaults_fault, flags_fault, walk_fault}
use Rattle.clap.specs.declared.error.kind.ErrorKind.TheVariants as kind
use Rattle.dg_cli.specs.Commands.{dollar}

abbrev pub is_call : ErrorKind → Bool
is_call kind.DisplayHelp = true
is_call kind.DisplayVersion = true
is_call _ = false

pub record AreAlike (ks : Kinds) : Type 0 where
  pub same : (j k : ErrorKind) → IsAmong j ks → IsAmong k ks → is_call j ≡ is_call k

none : AreAlike []
none = record { same = λ j k h i. absurd h }

only : (x j k : ErrorKind) → IsAmong j (x ∷ []) → IsAmong k (x ∷ []) → is_call j ≡ is_call k
only x j k h i = elim h [
  | inl is ↦ elim i [ inl also ↦ ap is_call (is ∙ sym also) | inr other ↦ absurd other ]
  | inr other ↦ absurd other
]

one : (x : ErrorKind) → AreAlike (x ∷ [])
one x = record { same = only x }

is_fault : (j x y : ErrorKind) → is_call x ≡ false → is_call y ≡ false → IsAmong j (x ∷ y ∷ []) → is_call j ≡ false
is_fault j x y first second h = elim h [
  | inl is ↦ ap is_call is ∙ first
  | inr rest ↦ elim rest [ inl is ↦ ap is_call is ∙ second | inr other ↦ absurd other ]
]

two : (x y : ErrorKind) → is_call x ≡ false → is_call y ≡ false → AreAlike (x ∷ y ∷ [])
two x y first second = record {
  same = λ j k h i. is_fault j x y first second h ∙ sym (is_fault k x y first second i);
}

first_of : (ks next : Kinds) → AreAlike ks → AreAlike next → AreAlike (or_else ks next)
first_of [] next a b = b
first_of (k ∷ ks) next a b = a

by_test : (c : Bool) (x y : Kinds) → AreAlike x → AreAlike y → AreAlike (if c then x else y)
by_test true x y a b = a
by_test false x y a b = b

of_option : {X : Type 0} (f : X → Kinds) (d : Kinds) (o : Option X) → ((x : X) → AreAlike (f x)) → AreAlike d
    → AreAlike (option_map_or f o d)
of_option f d None a b = b
of_option f d (Some x) a b = a x

of_value : (i : Bool) (p : ValueParser) (t : Text) → AreAlike (value_kinds i p t)
of_value i p t = by_test (accepts i p t) [] (refused_kind p ∷ []) none (one (refused_kind p))

of_values : (i : Bool) (p : ValueParser) (ts : List Text) → AreAlike (values_kinds i p ts)
of_values i p [] = none
of_values i p (t ∷ ts) = first_of _ _ (of_value i p t) (of_values i p ts)

of_range : (least most n : ℕ) → AreAlike (range_kinds least most n)
of_range least most n =
    by_test (nat_lt 0 least && n == 0) _ _ (one kind.InvalidValue)
    (by_test (least == most) _ _ (by_test (least == n) _ _ none (one kind.WrongNumberOfValues))
    (by_test (nat_lt n least) _ _ (one kind.TooFewValues) (by_test (nat_lt most n) _ _ (one kind.TooManyValues) none)))

of_request : (action : ArgAction) → AreAlike (request_kinds action)
of_request Help = one kind.DisplayHelp
of_request HelpShort = one kind.DisplayHelp
of_request HelpLong = one kind.DisplayHelp
of_request Version = one kind.DisplayVersion
of_request Set = none
of_request Append = none
of_request SetTrue = none
of_request SetFalse = none
of_request Count = none

of_set : (again : Bool) (a : Rule) (values : List Text) (rows : List Row) → AreAlike (set_fault again a values rows)
of_set again a values rows =
    first_of _ _ (by_test (has_row a.id rows && not again) _ _ (one kind.ArgumentConflict) none)
    (of_values a.ignore_case (parser_of_value a.parser) values)

of_count : (a : Rule) (values : List Text) (rows : List Row) → AreAlike (count_fault a values rows)
of_count a [] rows = of_value a.ignore_case (parser_of_value a.parser) _
of_count a (v ∷ vs) rows = of_values a.ignore_case (parser_of_value a.parser) (v ∷ vs)

of_action : (action : ArgAction) (again : Bool) (a : Rule) (values : List Text) (rows : List Row)
    → AreAlike (action_fault action again a values rows)
of_action Set again a values rows = of_set again a values rows
of_action SetTrue again a values rows = of_set again a values rows
of_action SetFalse again a values rows = of_set again a values rows
of_action Append again a values rows = of_values a.ignore_case (parser_of_value a.parser) values
of_action Count again a values rows = of_count a values rows
of_action Help again a values rows = of_request Help
of_action HelpShort again a values rows = of_request HelpShort
of_action HelpLong again a values rows = of_request HelpLong
of_action Version again a values rows = of_request Version

of_use : (again : Bool) (a : Rule) (values : List Text) (rows : List Row) → AreAlike (use_fault again a values rows)
of_use again a values rows =
    first_of _ _ (of_range (unwrap_or_range a.range).start_inclusive (most_values a) (length values))
    (of_action (action_of a) again a (values_or_missing a values) rows)

of_settling : (c : List Rule) (again : Bool) (h : Held) → AreAlike (settle_fault c again h)
of_settling c again h =
    of_option _ [] h.pending (λ p. of_option _ [] (arg_by_id c p.0) (λ a. of_use again a p.1 h.rows) none) none

of_reacting : (c : List Rule) (again : Bool) (a : Rule) (values : List Text) (h : Held)
    → AreAlike (react_fault c again a values h)
of_reacting c again a values h = first_of _ _ (of_settling c again h) (of_use again a values (settled c h).rows)

of_option_value : (c : List Rule) (again : Bool) (a : Rule) (v : Option Text) (h : Held)
    → AreAlike (option_fault c again a v h)
of_option_value c again a (Some v) h = of_reacting c again a (v ∷ []) h
of_option_value c again a None h = of_settling c again h

of_long : (c : List Rule) (again : Bool) (a : Option Rule) (v : Option Text) (h : Held)
    → AreAlike (long_fault c again a v h)
of_long c again None v h = one kind.UnknownArgument
of_long c again (Some a) v h =
    by_test (takes_values a) _ _ (of_option_value c again a v h)
    (by_test (is_some v) _ _ (one kind.TooManyValues) (of_reacting c again a [] h))

of_short : (c : List Rule) (again : Bool) (a : Option Rule) (rest : Text) (h : Held) (next : Held → Kinds)
    → ((x : Held) → AreAlike (next x)) → AreAlike (short_fault c again a rest h next)
of_short c again None rest h next more = one kind.UnknownArgument
of_short c again (Some a) rest h next more =
    by_test (takes_values a) _ _ (of_option_value c again a (attached_value rest) h)
    (first_of _ _ (of_reacting c again a [] h) (more (reacted c a [] h)))

of_bundle_step : (c : List Rule) (again : Bool) (x : Option ℕ) (flags : Text) (skip : ℕ) (h : Held)
    (next : Text → ℕ → Held → Kinds) → ((t : Text) (s : ℕ) (x : Held) → AreAlike (next t s x))
    → AreAlike (bundle_step_fault c again x flags skip h next)
of_bundle_step c again None flags skip h next more = none
of_bundle_step c again (Some x) flags zero h next more =
    of_short c again (arg_by_short c x) _ h _ (λ held. more _ 0 held)
of_bundle_step c again (Some x) flags (suc skip) h next more = more _ skip h

of_flags : (c : List Rule) (again : Bool) (k : ℕ) (flags : Text) (skip : ℕ) (h : Held)
    → AreAlike (flags_fault c again k flags skip h)
unfolding flags_fault
of_flags c again zero flags skip h = none
of_flags c again (suc k) flags skip h =
    of_bundle_step c again (slice_get (chars flags) 0) flags skip h (flags_fault c again k) (of_flags c again k)

of_flag_word : (c : List Rule) (again : Bool) (o : Option (Text × Option Text)) (word : Text) (h : Held)
    → AreAlike (flag_word_fault c again o word h)
of_flag_word c again (Some p) word h = of_long c again (arg_by_long c p.0) p.1 h
of_flag_word c again None word h =
    of_option _ [] (short_of word) (λ flags. of_flags c again (length flags) flags h.skip _) none

-- no word names `help` as a command
abbrev IsQuiet : Shape → Names → Type 0
IsQuiet s names = (w : Waiting) (word : Text) → (subcommand_met names w word ≡ None) ⊎ (s.disable_help_subcommand ≡ true)

no_help : (is off : Bool) (x : Kinds) → off ≡ true → AreAlike (if is && not off then x else [])
no_help true true x e = none
no_help false true x e = none
no_help is false x e = absurd (Rattle.std.proofs.Common.true≢false (sym e))

of_other : (s : Shape) (o : Option Text) (word : Text) (h : Held) → ((o ≡ None) ⊎ (s.disable_help_subcommand ≡ true))
    → AreAlike (other_fault s o word h)
of_other s None word h quiet =
    by_test (bytes_eq word (45 ∷ 45 ∷ [])) _ _ none (of_flag_word s.rules s.args_override_self (long_of word) word h)
of_other s (Some name) word h quiet = elim quiet [
  | inl unnamed ↦ absurd (Rattle.std.proofs.Common.true≢false (ap is_some unnamed))
  | inr off ↦ no_help _ s.disable_help_subcommand _ off
]

of_position : (s : Shape) (position : ℕ) (h : Held) → AreAlike (step_fault s position h Rattle.clap.specs.Walk.value)
of_position s position h =
    of_option _ _ (arg_by_index s.rules position)
    (λ a. by_test (is_pending a h.pending && takes_several a) _ _ none (of_settling s.rules s.args_override_self h))
    (by_test s.is_leaf _ _ (one kind.UnknownArgument) (two kind.UnknownArgument kind.InvalidSubcommand refl refl))

of_step : (s : Shape) (position : ℕ) (h : Held) (step : Step) → AreAlike (step_fault s position h step)
of_step s position h Rattle.clap.specs.Walk.value = of_position s position h
of_step s position h (Rattle.clap.specs.Walk.next w) = none
of_step s position h (Rattle.clap.specs.Walk.trailing p) = none
of_step s position h (Rattle.clap.specs.Walk.subcommand t) = none

of_turn : (s : Shape) (names : Names) → IsQuiet s names → (w : Walk) (word : Text) → AreAlike (turn_fault s names w word)
of_turn s names quiet w word =
    by_test (is_some w.stopped) _ _ none
    (first_of _ _
    (by_test w.is_trailing _ _ none (of_other s (subcommand_met names w.waiting word) word w.held (quiet w.waiting word)))
    (of_step s w.position (word_met s.rules names w.is_trailing w.waiting w.position word w.held).0 _))

of_walk : (s : Shape) (names : Names) → IsQuiet s names → (w : Walk) (ws : List Text) → AreAlike (walk_fault s names w ws)
unfolding walk_fault
of_walk s names quiet w [] = none
of_walk s names quiet w (word ∷ rest) =
    first_of _ _ (of_turn s names quiet w word) (of_walk s names quiet (walked s.rules names w word) rest)

of_default : (rows : List Row) (a : Rule) → AreAlike (default_fault rows a)
of_default rows a =
    by_test _ _ _ none
    (first_of _ _ (of_request (action_of a)) (of_values a.ignore_case (parser_of_value a.parser) a.defaults))

of_defaults : (rows : List Row) (rules : List Rule) → AreAlike (defaults_fault rows rules)
unfolding defaults_fault
of_defaults rows [] = none
of_defaults rows (a ∷ rest) = first_of _ _ (of_default rows a) (of_defaults (with_default rows a) rest)

of_checks : (help subcommand argument : Bool) → AreAlike (check_kinds help subcommand argument)
of_checks help subcommand argument =
    by_test help _ _ (one kind.DisplayHelpOnMissingArgumentOrSubcommand)
    (by_test subcommand _ _ (one kind.MissingSubcommand) (by_test argument _ _ (one kind.MissingRequiredArgument) none))

of_level : (s : Shape) (names : Names) (h : Held) (ws : List Text) (met : Bool) (below : Kinds) → IsQuiet s names
    → AreAlike below → AreAlike (level_fault s names h ws met below)
of_level s names h ws met below quiet under =
    first_of _ _ (of_walk s names quiet (walk_from h) ws)
    (first_of _ _ under (first_of _ _ (of_settling s.rules s.args_override_self (walk s.rules names h ws).held)
    (first_of _ _ (of_defaults _ s.rules) (of_checks _ _ _))))

no_names : (s : Shape) → IsQuiet s []
no_names s Rattle.clap.specs.Walk.idle word = inl refl
no_names s (Rattle.clap.specs.Walk.option t) word = inl refl
no_names s Rattle.clap.specs.Walk.positional word = inl refl

of_entered : (a : App) (stop : Option (Text × List Text)) → AreAlike (entered_fault a stop)
of_entered a stop =
    of_option _ [] stop
    (λ p. of_option _ [] (find (λ s. answers_to p.0 (label_of s)) a.subs)
    (λ s. of_level s [] nothing_held p.1 false [] (no_names s) none) none) none

of_built : (a : App) (h : Held) (ws : List Text) → a.top.disable_help_subcommand ≡ true → AreAlike (built_fault a h ws)
of_built a h ws off = of_level a.top (names_of a) h ws _ _ (λ w word. inr off) (of_entered a _)

help_off : (built dollar).top.disable_help_subcommand ≡ true
unfolding dollar
help_off = refl

pub alike : (words : List Text) → AreAlike (fault_of dollar words)
alike words = of_built (built dollar) nothing_held (argument_words dollar words) help_off
