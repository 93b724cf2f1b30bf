-- Looks that seats keep, from step to step.
--   kept_more      a look that is kept before a step is kept after it, unless the step is the seat's and uses looks
--   kept_less      a look that is kept after such a step was kept before it
--   kept_new       after a look by the seat that look is kept
--   kept_none      after a step of the seat that uses its look up none is
--   keeps_more     the look that a seat keeps stays, unless the step is the seat's and uses looks
--   keeps_new      after a look by the seat it keeps that one
--   keeps_none     after a step of the seat that uses its look up it keeps none
use Rattle.dg_game.proofs.Common.{◌≡◌, ℕ, ◌+◌, List, [], ◌∷◌, ◌++◌, length, length-append, slice_get, Option, Some, None, arith, refl, sym, ap, subst, ◌∙◌, inl, inr, cases_lt, StartData, IsLookAt, KeepsLook, UsesUpLook, ChangesKeptLook, KeepsLookAt, Entry, LookData, Command, Call, Commit, Rank, Step, look_kept}
use Rattle.dg_rules.specs.declared.entry.Plain.TheVariants as plain

-- the step is another seat's, or uses no look
abbrev pub LeavesLook : ℕ → Step → Type 0
LeavesLook seat step = step.seat ≡ seat → ¬ ChangesKeptLook step.command

one_step : (steps : List Step) (n : ℕ) (s t : Step) → slice_get steps n ≡ Some s → slice_get steps n ≡ Some t → s ≡ t
one_step steps n s t first second = let same : Some s ≡ Some t = sym first ∙ second in (cc)

pub kept_more : (steps : List Step) (seat n i : ℕ) (step : Step) → slice_get steps n ≡ Some step →
    LeavesLook seat step →
    KeepsLookAt steps seat n i → KeepsLookAt steps seat (n + 1) i
kept_more steps seat n i step there leaves kept = record {
  before = omega (arith, kept.before);
  look = kept.look;
  last = λ k s above below at its. elim (cases_lt k n) [
    | inl earlier ↦ kept.last k s above earlier at its
    | inr now ↦
        let here : k ≡ n = omega arith in
        let same : s ≡ step = one_step steps n s step (ap (slice_get steps) (sym here) ∙ at) there in
        rw same (leaves (ap (λ (t : Step). t.seat) (sym same) ∙ its))
  ];
}

pub kept_less : (steps : List Step) (seat n i : ℕ) (step : Step) → slice_get steps n ≡ Some step →
    LeavesLook seat step →
    KeepsLookAt steps seat (n + 1) i → KeepsLookAt steps seat n i
kept_less steps seat n i step there leaves kept = elim (cases_lt i n) [
  | inl earlier ↦ record {
    before = earlier;
    look = kept.look;
    last = λ k s above below at its. kept.last k s above (omega arith) at its;
  }
  | inr now ↦
      let here : i ≡ n = omega (arith, kept.before) in
      let same : step ≡ record { seat = seat; command = Call plain.Look } =
      one_step steps n step _ there (ap (slice_get steps) (sym here) ∙ kept.look) in
      absurd (leaves (ap (λ (t : Step). t.seat) same) (rw (ap (λ (t : Step). t.command) same) tt))
]

pub kept_new : (steps : List Step) (seat n : ℕ) →
    slice_get steps n ≡ Some (record { seat = seat; command = Call plain.Look }) →
    KeepsLookAt steps seat (n + 1) n
kept_new steps seat n there = record {
  before = omega arith;
  look = there;
  last = λ k s above below at its. absurd (omega arith);
}

abbrev is_call : Command → ℕ
is_call (Call p) = 1
is_call Commit = 0
is_call (Rank k) = 0

no_call : (c : Command) → UsesUpLook c → is_call c ≡ 0
no_call (Call p) up = absurd up
no_call Commit up = refl
no_call (Rank k) up = refl

uses_look : (c : Command) → UsesUpLook c → ChangesKeptLook c
uses_look (Call p) up = absurd up
uses_look Commit up = tt
uses_look (Rank k) up = tt

pub kept_none : (steps : List Step) (seat n i : ℕ) (c : Command) →
    slice_get steps n ≡ Some (record { seat = seat; command = c }) →
    UsesUpLook c → ¬ KeepsLookAt steps seat (n + 1) i
kept_none steps seat n i c there up kept = elim (cases_lt i n) [
  | inl earlier ↦ kept.last n _ earlier (omega arith) there refl (uses_look c up)
  | inr now ↦
      let here : i ≡ n = omega (arith, kept.before) in
      let uses : Step = record { seat = seat; command = c } in
      let looks : Step = record { seat = seat; command = Call plain.Look } in
      let same : uses ≡ looks = one_step steps n uses looks there (ap (slice_get steps) (sym here) ∙ kept.look) in
      let apart : is_call c ≡ 1 = ap (λ (t : Step). is_call t.command) same in
      omega (arith, apart, no_call c up)
]

longer : (H : List Entry) (e : Entry) → length (H ++ e ∷ []) ≡ length H + 1
longer H e = omega (arith, length-append H (e ∷ []))

pub keeps_more : (o : StartData) (H : List Entry) (e : Entry) (steps : List Step) (seat : ℕ) (step : Step)
    (x : Option LookData) →
    slice_get steps (length H) ≡ Some step → LeavesLook seat step → KeepsLook o H steps seat x →
    KeepsLook o (H ++ e ∷ []) steps seat x
keeps_more o H e steps seat step (Some x) there leaves (kept, look) =
    (rw (longer H e) (kept_more steps seat (length H) x.number step there leaves kept), look_kept o H e x look)
keeps_more o H e steps seat step None there leaves none =
    λ i kept. none i (kept_less steps seat (length H) i step there leaves
    (subst (λ n. KeepsLookAt steps seat n i) (longer H e) kept))

pub keeps_new : (o : StartData) (H : List Entry) (e : Entry) (steps : List Step) (seat : ℕ) (x : LookData) →
    slice_get steps (length H) ≡ Some (record { seat = seat; command = Call plain.Look }) → x.number ≡ length H →
    IsLookAt o (H ++ e ∷ []) x → KeepsLook o (H ++ e ∷ []) steps seat (Some x)
keeps_new o H e steps seat x there number look = (rw (longer H e, number) (kept_new steps seat (length H) there), look)

pub keeps_none : (o : StartData) (H : List Entry) (e : Entry) (steps : List Step) (seat : ℕ) (c : Command) →
    slice_get steps (length H) ≡ Some (record { seat = seat; command = c }) → UsesUpLook c →
    KeepsLook o (H ++ e ∷ []) steps seat None
keeps_none o H e steps seat c there up i kept =
    kept_none steps seat (length H) i c there up (subst (λ n. KeepsLookAt steps seat n i) (longer H e) kept)
