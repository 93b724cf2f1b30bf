-- What a parse of the words tells.
use Rattle.dg_cli.proofs.Common.{◌≡◌, ◌∙◌, List, [], Option, Some, None, Result, Ok, Err, IsSomeAnd, IfErr, true, inl, inr, refl, ap, subst, App, HasKind, IsAmong, Kinds, Row, Text, fault_of, is_simple, is_simple_and_free, kind_of, subcommand_of, Error, ErrorKind, Invocation, ArgsFault, CommandLine, NotText, OutOfMemory, Asks, AsksFor, AskNothing, IsArgsFault, IsErrorText, HasErrorKind}
use Rattle.dg_invocation.specs.declared.invocation.Invocation.TheVariants as asked
use Rattle.dg_cli.specs.Commands.{dollar}

pub free : is_simple_and_free dollar ≡ true
unfolding dollar
free = refl

pub simple : is_simple dollar ≡ true
unfolding dollar
simple = refl

pub faultless : (program : App) (words : List Text) → program ≡ dollar → (is_simple_and_free program ≡ true
    → fault_of program words ≡ []) → fault_of dollar words ≡ []
faultless program words is told = subst (λ a. fault_of a words ≡ []) is (told (ap is_simple_and_free is ∙ free))

pub entered : (program : App) (words : List Text) (rows : Option (Text × List Row)) (X : Type 0) → program ≡ dollar
    → (is_simple program ≡ true → X × (rows ≡ subcommand_of program words)) → rows ≡ subcommand_of dollar words
entered program words rows X is told = (told (ap is_simple is ∙ simple)).1 ∙ ap (λ a. subcommand_of a words) is

pub why : (program : App) (words : List Text) (e : Error) → program ≡ dollar → (is_simple_and_free program ≡ true →
    HasKind (fault_of program words) e) → HasErrorKind words (kind_of e)
why program words e is told = elim (subst (λ a. HasKind (fault_of a words) e) is (told (ap is_simple_and_free is ∙ free))) [
  | inl m ↦ inl m
  | inr k ↦ inr (inl k)
]

no_text : (o : Option (Text × List Row)) → IsSomeAnd o (λ _. ⊥) → ⊥
no_text None h = h
no_text (Some p) h = h

pub asks : (words : List Text) (it : Invocation) → fault_of dollar words ≡ [] → IsSomeAnd (subcommand_of dollar words)
    (λ p. AsksFor p.0 p.1 it) → Asks words it
asks words (asked.Task task) none h = (none, h)
asks words (asked.Sweep task) none h = (none, h)
asks words (asked.Serve task) none h = (none, h)
asks words (asked.Party task) none h = (none, h)
asks words (asked.Text text) none h = absurd (no_text (subcommand_of dollar words) h)

no_kind : (k : ErrorKind) (kinds : Kinds) → kinds ≡ [] → IsAmong k kinds → ⊥
no_kind k kinds none h = subst (λ ks. IsAmong k ks) none h

pub ask_nothing : (words : List Text) → fault_of dollar words ≡ [] →
    ((it : Invocation) → IsSomeAnd (subcommand_of dollar words) (λ p. AsksFor p.0 p.1 it) → ⊥) → AskNothing words
ask_nothing words none h = record { faultless = none; nothing = nothing }
  where
    nothing : (it : Invocation) → Asks words it → ⊥
    nothing (asked.Task task) is = h (asked.Task task) is.1
    nothing (asked.Sweep task) is = h (asked.Sweep task) is.1
    nothing (asked.Serve task) is = h (asked.Serve task) is.1
    nothing (asked.Party task) is = h (asked.Party task) is.1
    nothing (asked.Text text) is = elim is [
      | inl help ↦ no_kind _ _ none help
      | inr version ↦ no_kind _ _ none version
    ]

pub refuses : (words : List Text) (kind : ErrorKind) (r : Result Invocation ArgsFault) → HasErrorKind words kind →
    IsErrorText kind r → IfErr r (λ fault. IsArgsFault words fault)
refuses words kind (Ok it) why said = tt
refuses words kind (Err OutOfMemory) why said = tt
refuses words kind (Err NotText) why said = said
refuses words kind (Err (CommandLine text)) why said = elim why [
  | inl m ↦ absurd (said.0 m)
  | inr other ↦ elim other [
    | inl among ↦ inl (record { fault = kind; found = among; no_help = said.1.0; no_version = said.1.1 })
    | inr nothing ↦ inr nothing.0
  ]
]
