-- No list of words asks for two things, or asks for something and is refused.
use Rattle.dg_cli_laws.proofs.Common.{◌≡◌, ◌∙◌, ◌⊎◌, List, [], Option, None, Some, IsSomeAnd, true, inl, inr, refl, sym, subst, subcommand_of, ErrorKind, Invocation, ArgsFault, CommandLine, NotText, OutOfMemory, Asks, AsksFor, CallsForHelp, HasClapFault, IsArgsFault, MeaningIsUnique, written}
use Rattle.clap.specs.Words.{IsAmong, Kinds, Row, Text, fault_of}
use Rattle.clap.specs.declared.error.kind.ErrorKind.TheVariants as kind
use Rattle.dg_invocation.specs.declared.invocation.Invocation.TheVariants as asked
use Rattle.dg_cli.specs.Commands.{dollar}
use Rattle.dg_cli_laws.proofs.Alike.{alike, is_call}
use Rattle.dg_cli_laws.proofs.Written.{asks-told}

-- a kind that is no call is none of the two
no_call : (k : ErrorKind) → is_call k ≡ true → (k ≡ kind.DisplayHelp → ⊥) → (k ≡ kind.DisplayVersion → ⊥) → ⊥
no_call kind.DisplayHelp is help version = help refl
no_call kind.DisplayVersion is help version = version refl
no_call _ is help version = absurd cc

called : (words : List Text) → CallsForHelp (fault_of dollar words) → HasClapFault words → ⊥
called words calls bad = elim calls [
  | inl help ↦ no_call bad.fault ((alike words).same bad.fault kind.DisplayHelp bad.found help) bad.no_help bad.no_version
  | inr version ↦ no_call bad.fault ((alike words).same bad.fault kind.DisplayVersion bad.found version) bad.no_help
      bad.no_version
]

faultless : (words : List Text) → fault_of dollar words ≡ [] → HasClapFault words → ⊥
faultless words none bad = subst (λ (ks : Kinds). IsAmong bad.fault ks) none bad.found

both : (words : List Text) (it : Invocation) → Asks words it → HasClapFault words → ⊥
both words (asked.Text text) asks bad = called words asks bad
both words (asked.Task task) asks bad = faultless words asks.0 bad
both words (asked.Sweep task) asks bad = faultless words asks.0 bad
both words (asked.Serve task) asks bad = faultless words asks.0 bad
both words (asked.Party task) asks bad = faultless words asks.0 bad

apart : (words : List Text) (it : Invocation) (fault : ArgsFault) → Asks words it → IsArgsFault words fault → fault ≡
    OutOfMemory
apart words it OutOfMemory asks refused = refl
apart words it NotText asks refused = absurd refused
apart words it (CommandLine text) asks refused = elim refused [
  | inl bad ↦ absurd (both words it asks bad)
  | inr nothing ↦ absurd (nothing.nothing it asks)
]

entered-alike : (o : Option (Text × List Row)) (a b : Invocation) → IsSomeAnd o (λ p. AsksFor p.0 p.1 a)
    → IsSomeAnd o (λ p. AsksFor p.0 p.1 b) → written a ≡ written b
entered-alike None a b asks also = absurd asks
entered-alike (Some p) a b asks also = asks-told p.0 p.1 a asks ∙ sym (asks-told p.0 p.1 b also)

-- a call for help, of which nothing is written, or what a command asks for
abbrev Meant : List Text → Invocation → Type 0
Meant words it =
    (CallsForHelp (fault_of dollar words) × (written it ≡ []))
    ⊎ ((fault_of dollar words ≡ []) × IsSomeAnd (subcommand_of dollar words) (λ p. AsksFor p.0 p.1 it))

meant : (words : List Text) (it : Invocation) → Asks words it → Meant words it
meant words (asked.Text text) asks = inl (asks, refl)
meant words (asked.Task task) asks = inr asks
meant words (asked.Sweep task) asks = inr asks
meant words (asked.Serve task) asks = inr asks
meant words (asked.Party task) asks = inr asks

no_call_of_none : (words : List Text) → fault_of dollar words ≡ [] → CallsForHelp (fault_of dollar words) → ⊥
no_call_of_none words none calls = subst (λ (ks : Kinds). CallsForHelp ks → ⊥) (sym none) not_among calls
  where
    not_among : CallsForHelp [] → ⊥
    not_among calls = elim calls [ inl help ↦ help | inr version ↦ version ]

one : (words : List Text) (a b : Invocation) → Asks words a → Asks words b → written a ≡ written b
one words a b asks also = elim (meant words a asks) [
  | inl call ↦ elim (meant words b also) [
    | inl too ↦ call.1 ∙ sym too.1
    | inr named ↦ absurd (no_call_of_none words named.0 call.0)
  ]
  | inr named ↦ elim (meant words b also) [
    | inl call ↦ absurd (no_call_of_none words named.0 call.0)
    | inr too ↦ entered-alike (subcommand_of dollar words) a b named.1 too.1
  ]
]

pub law : MeaningIsUnique
law = record { one = one; apart = apart }
