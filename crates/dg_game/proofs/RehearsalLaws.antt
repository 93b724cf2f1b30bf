-- A schedule goes on by a step.
--   entries_more   where the entries are those of the first steps, one more of the next step keeps them so
--   good_more      with one more good step all steps so far are good
--   playing_none   before the first step the schedule is in play
--   playing_more   one more entry that the next step asks for, and the looks kept after it, play the schedule on
--   looks_same     a step that uses no look keeps all looks
--   looks_set      a step that replaces the seat's look keeps those of the other seats
--   looks_looked   the looks kept after a call that is a look
--   looks_left     the looks kept after a call that is no look
--   called         a call plays the schedule on
--   entered        what is asked on the seat's look plays the schedule on when it is entered
--   aimed          the schedule goes on with any inverse
--   past_limits    a rank test past the limits is the first fault, where the seat keeps a look
--   plays_at, stops_at   a step is played, or stops the play, as its command
--   told_err       a refusal that is handed on tells what it told before
use Rattle.dg_game.proofs.Common.{◌≡◌, ℕ, ◌+◌, ◌<◌, List, [], ◌∷◌, ◌++◌, length, length-append, slice_get, Option, Some, None, Result, Ok, Err, set, arith, refl, sym, ap, subst, ◌∙◌, inl, inr, length-set, replicate, slice_index_or, MatchResult, IsErrAnd, cases_lt, cases_eq, get_or-set_same, get_or-set_other, get_or-replicate, length-replicate, StartData, IsPastLimits, IsSeatNumber, IsLegal, KeepsLook, IsRehearsalAfter, PlaysStep, RefusesStep, RehearseFault, call_request, UsesUpLook, ChangesKeptLook, KeepsLookAt, IsStepRequest, IsStepEntry, HasLook, HasTrials, IsGoodStep, AreGoodBefore, IsRehearsalFault, LeadsTo, Entry, Plain, MAX_ENTRIES, LookData, Rehearsal, TooMany, Command, Call, Commit, Rank, Step, more_holds, legal_none, look_new}
use Rattle.dg_rules.specs.declared.entry.Plain.TheVariants as plain
use Rattle.dg_game.proofs.KeptLaws.{keeps_more, keeps_new, keeps_none}

entries_more : (steps : List Step) (H : List Entry) (step : Step) (e : Entry) →
    slice_get steps (length H) ≡ Some step →
    IsStepEntry steps (length H) step e →
    ((j : ℕ) (s : Step) (x : Entry) → slice_get steps j ≡ Some s → slice_get H j ≡ Some x → IsStepEntry steps j s x) →
    (j : ℕ) (s : Step) (x : Entry) → slice_get steps j ≡ Some s → slice_get (H ++ e ∷ []) j ≡ Some x →
    IsStepEntry steps j s x
entries_more steps H step e there new before j s x step_at at = elim (more_holds H e j x at) [
  | inl old ↦ before j s x step_at old.1
  | inr last ↦
      let same : Some s ≡ Some step = sym step_at ∙ ap (slice_get steps) last.0 ∙ there in
      let step_is : s ≡ step = (cc) in
      rw (last.0, step_is, last.1) new
]

good_more : (size : ℕ) (steps : List Step) (n : ℕ) (step : Step) → slice_get steps n ≡ Some step →
    IsGoodStep size steps n step →
    AreGoodBefore size steps n → AreGoodBefore size steps (n + 1)
good_more size steps n step there good before k s below at = elim (cases_lt k n) [
  | inl earlier ↦ before k s earlier at
  | inr now ↦
      let here : k ≡ n = omega arith in
      let both : Some s ≡ Some step = sym at ∙ ap (slice_get steps) here ∙ there in
      let same : s ≡ step = (cc) in
      rw (here, same) good
]

-- the looks kept after a history
abbrev pub AreLooks : StartData → List Entry → List Step → List (Option LookData) → Type 0
AreLooks o H steps looks = (seat : ℕ) → IsSeatNumber seat → KeepsLook o H steps seat (slice_index_or looks seat None)

pub playing_more : (o : StartData) (H : List Entry) (steps : List Step) (r t : Rehearsal) (step : Step) (e : Entry) →
    IsRehearsalAfter o steps H r →
    slice_get steps (length H) ≡ Some step → IsGoodStep o.graph.size steps (length H) step →
    IsStepEntry steps (length H) step e →
    IsLegal o (H ++ e ∷ []) → LeadsTo o (H ++ e ∷ []) t.game → t.q ≡ r.q → length t.looks ≡ 65 →
    AreLooks o (H ++ e ∷ []) steps t.looks → IsRehearsalAfter o steps (H ++ e ∷ []) t
playing_more o H steps r t step e playing there good asks legal leads q places looks =
    let longer : length (H ++ e ∷ []) ≡ length H + 1 = omega (arith, length-append H (e ∷ [])) in
    record {
      leads = leads;
      q = q ∙ playing.q;
      legal = legal;
      good = rw longer (good_more o.graph.size steps (length H) step there good playing.good);
      entries = entries_more steps H step e there asks playing.entries;
      places = places;
      looks = looks;
    }

pub looks_same : (o : StartData) (H : List Entry) (e : Entry) (steps : List Step) (step : Step)
    (looks : List (Option LookData)) →
    slice_get steps (length H) ≡ Some step → (¬ ChangesKeptLook step.command) → AreLooks o H steps looks →
    AreLooks o (H ++ e ∷ []) steps looks
looks_same o H e steps step looks there leaves kept seat is =
    keeps_more o H e steps seat step (slice_index_or looks seat None) there (λ its. leaves) (kept seat is)

pub looks_set : (o : StartData) (H : List Entry) (e : Entry) (steps : List Step) (step : Step)
    (looks : List (Option LookData)) (x : Option LookData) →
    slice_get steps (length H) ≡ Some step → length looks ≡ 65 → IsSeatNumber step.seat →
    KeepsLook o (H ++ e ∷ []) steps step.seat x →
    AreLooks o H steps looks → AreLooks o (H ++ e ∷ []) steps (set looks step.seat x)
looks_set o H e steps step looks x there places its keeps kept seat is = elim (cases_eq seat step.seat) [
  | inl same ↦ rw (same, get_or-set_same looks step.seat x None (omega (arith, places, its.1))) keeps
  | inr other ↦
      rw (get_or-set_other looks step.seat seat x None other)
      (keeps_more o H e steps seat step (slice_index_or looks seat None) there (λ here. absurd (other (sym here)))
      (kept seat is))
]

-- a call that is no look uses none
no_look : (p : Plain) → (p ≡ plain.Look → ⊥) → ¬ ChangesKeptLook (Call p)
no_look plain.Look other uses = other refl
no_look p other uses = uses

-- the looks kept after a call that is a look, and after one that is not
pub looks_looked : (o : StartData) (H : List Entry) (e : Entry) (steps : List Step) (r : Rehearsal) (seat : ℕ) (p : Plain)
    (x : LookData) →
    IsRehearsalAfter o steps H r → slice_get steps (length H) ≡ Some (record { seat = seat; command = Call p })
    → IsSeatNumber seat →
    e.request ≡ call_request p → p ≡ plain.Look →
    x.number ≡ r.game.entries → x.gifts ≡ r.game.gifts → x.graph ≡ r.game.graph → x.position ≡ r.game.amounts →
    AreLooks o (H ++ e ∷ []) steps (set r.looks seat (Some x))
looks_looked o H e steps r seat p x playing there is asks look number gifts graph position =
    let looks : slice_get steps (length H) ≡ Some (record { seat = seat; command = Call plain.Look }) =
    rw look at there in
    looks_set o H e steps (record { seat = seat; command = Call p }) r.looks (Some x) there playing.places is
    (keeps_new o H e steps seat x looks (number ∙ playing.leads.entries)
    (look_new o H r.game e x playing.leads (asks ∙ ap call_request look) number gifts graph position)) playing.looks

pub looks_left : (o : StartData) (H : List Entry) (e : Entry) (steps : List Step) (r : Rehearsal) (seat : ℕ) (p : Plain) →
    IsRehearsalAfter o steps H r → slice_get steps (length H) ≡ Some (record { seat = seat; command = Call p }) →
    (p ≡ plain.Look → ⊥) → AreLooks o (H ++ e ∷ []) steps r.looks
looks_left o H e steps r seat p playing there other =
    looks_same o H e steps (record { seat = seat; command = Call p }) r.looks there (no_look p other) playing.looks

pub called : (o : StartData) (H : List Entry) (e : Entry) (steps : List Step) (r t : Rehearsal) (seat : ℕ) (p : Plain) →
    IsRehearsalAfter o steps H r → slice_get steps (length H) ≡ Some (record { seat = seat; command = Call p })
    → IsSeatNumber seat →
    e.seat ≡ seat → e.request ≡ call_request p → IsLegal o (H ++ e ∷ []) → LeadsTo o (H ++ e ∷ []) t.game →
    t.q ≡ r.q → length t.looks ≡ 65 → AreLooks o (H ++ e ∷ []) steps t.looks → IsRehearsalAfter o steps (H ++ e ∷ []) t
called o H e steps r t seat p playing there is its asks legal leads q places looks =
    playing_more o H steps r t (record { seat = seat; command = Call p }) e
    playing there (is, tt, tt) (record { seat = its; request = asks }) legal leads q places looks

has_look : (steps : List Step) (seat j i : ℕ) (c : Command) → KeepsLookAt steps seat j i → HasLook steps seat j c
has_look steps seat j i (Call p) kept = tt
has_look steps seat j i Commit kept = (i, kept)
has_look steps seat j i (Rank k) kept = (i, kept)

pub entered : (o : StartData) (H : List Entry) (e : Entry) (steps : List Step) (r t : Rehearsal) (seat : ℕ) (c : Command)
    (x : LookData) → IsRehearsalAfter o steps H r → slice_get steps (length H) ≡ Some (record { seat = seat; command = c }) →
    IsSeatNumber seat → KeepsLook o H steps seat (Some x) → UsesUpLook c → HasTrials o.graph.size c →
    e.seat ≡ seat → IsStepRequest steps seat (length H) c e.request →
    IsLegal o (H ++ e ∷ []) → LeadsTo o (H ++ e ∷ []) t.game →
    t.q ≡ r.q → t.looks ≡ set r.looks seat None → IsRehearsalAfter o steps (H ++ e ∷ []) t
entered o H e steps r t seat c x playing there is (kept, look) up trials its asks legal leads q replaced =
    let step : Step = record { seat = seat; command = c } in
    playing_more o H steps r t step e playing there (is, has_look steps seat (length H) x.number c kept, trials)
    (record { seat = its; request = asks }) legal leads q (ap length replaced ∙ length-set _ _ _ ∙ playing.places)
    (rw replaced (looks_set o H e steps step r.looks None there playing.places is
    (keeps_none o H e steps seat c there up) playing.looks))

pub aimed : (o : StartData) (H : List Entry) (steps : List Step) (r t : Rehearsal) → t.game ≡ r.game → t.q ≡ r.q →
    t.looks ≡ r.looks → IsRehearsalAfter o steps H r → IsRehearsalAfter o steps H t
aimed o H steps r t game q looks playing = record {
  leads = rw game playing.leads;
  q = q ∙ playing.q;
  legal = playing.legal;
  good = playing.good;
  entries = playing.entries;
  places = ap length looks ∙ playing.places;
  looks = rw looks playing.looks;
}

pub playing_none : (o : StartData) (steps : List Step) (r : Rehearsal) → LeadsTo o [] r.game → r.q ≡ o.q →
    r.looks ≡ replicate 65 None → IsRehearsalAfter o steps [] r
playing_none o steps r leads q empty = record {
  leads = leads;
  q = q;
  legal = legal_none o;
  good = λ k step below at. absurd (omega arith);
  entries = λ j step e at there. absurd (cc);
  places = ap length empty ∙ length-replicate {A = Option LookData} 65 None;
  looks = λ seat is. rw (empty, get_or-replicate {A = Option LookData} 65 seat None None (omega (arith, is.1)))
      (λ i kept. absurd (omega (arith, kept.before)));
}

pub past_limits : (o : StartData) (H : List Entry) (steps : List Step) (r : Rehearsal) (seat k j i : ℕ) →
    IsRehearsalAfter o steps H r →
    slice_get steps (length H) ≡ Some (record { seat = seat; command = Rank k }) → i ≡ length H → i < MAX_ENTRIES →
    IsSeatNumber seat →
    KeepsLookAt steps seat (length H) j → IsPastLimits o.graph.size k
    → IsRehearsalFault o.graph.size steps (TooMany i)
past_limits o H steps r seat k j i playing there here room is kept past = (
  room,
  rw here playing.good,
  (record { seat = seat; command = Rank k }, rw here there, (is, (j, rw here kept), past)),
)

pub told_err : {X E : Type 0} (r : Result X E) (fault : E) (P : X → Type 0) (Q : E → Type 0) →
    IsErrAnd r (λ e. e ≡ fault) →
    Q fault → MatchResult r P Q
told_err (Ok x) fault P Q err told = absurd err
told_err (Err e) fault P Q err told = rw err told

-- a step that has a command is played, and stops the play, as that command
module _ {r : Rehearsal} (step : Step) {command : Command} (is : step.command ≡ command) where
  pub plays_at : {e : Entry} {t : Rehearsal} → PlaysStep r (record step { command = command }) e t
      → PlaysStep r step e t
  plays_at {e} {t} plays = subst (λ (k : Command). PlaysStep r (record step { command = k }) e t) (sym is) plays

  pub stops_at : {fault : RehearseFault} → RefusesStep r (record step { command = command }) fault → RefusesStep r step fault
  stops_at {fault} stops = subst (λ (k : Command). RefusesStep r (record step { command = k }) fault) (sym is) stops
