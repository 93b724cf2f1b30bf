-- Schedules that are played step by step.
--   IsUnderWay o names all left line r text stopped == the lines before those that are left spell steps, as
--                                                      many as `line` says; nothing has stopped and r and the
--                                                      text are what they have come to, or the first fault is
--                                                      among them
--   played_none      before the first step
--   played_more      with one more step, whose entry is the next of the history and whose line the next of the text
--   stopped_at       a step that can't be played stops the schedule, whatever follows
--   next_is          the next step, seen as one of all steps
--   lines_few        there are not more lines than bytes
--   under_way_none   before the first line
--   one_played, one_refused, one_passed   with one more line: its step is played, or it stops the schedule, or this has
--                                         stopped
--   lines_read       there are as many bytes as lines so far and the next
--   all_played       after the last line the text is that of the history
--   first_fault      after the last line the fault is the first one of the steps
--   never_unseated   a step that a line spells has a seat
use Rattle.dg_tasks.proofs.Common.{◌≡◌, ℕ, ◌+◌, ◌<◌, ◌≤◌, ◌==◌, cond, true, false, List, [], ◌∷◌, ◌++◌, length, slice_get, Option, Some, None, arith, refl, sym, ap, subst, ◌∙◌, append_assoc, append-nil, length-append, is_none, StartData, IsRehearsalAfter, PlaysStep, RefusesStep, IsRehearsalFault, Entry, MAX_ENTRIES, Rehearsal, RehearseFault, Seat, Step, slice_get-seam, cons_to_first, IsStepLine, entry_text, history_more, AreRead, none_read, one_more, all_read, steps_seated, IsRehearsalAnswer, IsPlayedSoFar, StopsRehearsal, IsStepsFaultOn}
use Rattle.dg_lines.specs.Cuts.{lines}
use Rattle.dg_lines.specs.Texts.{history_text}

abbrev pub StandsAt : StartData → List (List ℕ) → List Step → Rehearsal → List ℕ → Option RehearseFault → Type 0
StandsAt o names steps r text None = IsPlayedSoFar o names steps r text
StandsAt o names steps r text (Some fault) = StopsRehearsal o steps fault

pub record IsUnderWay (o : StartData) (names all left : List (List ℕ)) (line : ℕ) (r : Rehearsal) (text : List ℕ)
    (stopped : Option RehearseFault) : Type 0 where
  pub steps : List Step
  pub read : AreRead names all left steps
  pub count : line ≡ length steps
  pub stands : StandsAt o names steps r text stopped

pub next_is : (steps more : List Step) (step : Step) (n : ℕ) → n ≡ length steps →
    slice_get (steps ++ step ∷ more) n ≡ Some step
next_is steps more step n e = ap (slice_get (steps ++ step ∷ more)) e ∙ slice_get-seam steps step more

together : (steps more : List Step) (step : Step) → (steps ++ step ∷ []) ++ more ≡ steps ++ step ∷ more
together steps more step = append_assoc steps (step ∷ []) more

pub played_none : (o : StartData) (names : List (List ℕ)) (r : Rehearsal) (text : List ℕ) →
    ((steps : List Step) → IsRehearsalAfter o steps [] r) → text ≡ []
    → IsPlayedSoFar o names [] r text
unfolding history_text
played_none o names r text playing empty = record {
  history = [];
  playing = playing;
  count = refl;
  few = omega arith;
  printed = empty;
}

pub played_more : (o : StartData) (names : List (List ℕ)) (steps : List Step) (step : Step) (e : Entry) (r t : Rehearsal)
    (text longer : List ℕ) (number : ℕ)
    → PlaysStep r step e t → r.game.entries < MAX_ENTRIES → number ≡ r.game.entries
    → longer ≡ text ++ entry_text names number e.reply
    → IsPlayedSoFar o names steps r text → IsPlayedSoFar o names (steps ++ step ∷ []) t longer
played_more o names steps step e r t text longer number plays room counted written known =
    let H : List Entry = known.history in
    let here : (more : List Step) → IsRehearsalAfter o (steps ++ step ∷ more) H r = λ more. known.playing (step ∷ more) in
    let place : number ≡ 0 + length H = omega (arith, counted, (known.playing []).leads.entries) in
    record {
      history = H ++ e ∷ [];
      playing = λ more. subst (λ (all : List Step). IsRehearsalAfter o all (H ++ e ∷ []) t) (sym (together steps more step))
          (plays o H (steps ++ step ∷ more) (here more) (next_is steps more step (length H) known.count));
      few = omega (
        arith,
        room,
        (known.playing []).leads.entries,
        known.count,
        length-append steps (step ∷ []),
      );
      count = length-append H (e ∷ []) ∙ ap (λ (n : ℕ). n + 1) known.count ∙ sym (length-append steps (step ∷ []));
      printed = written ∙ ap (λ (start : List ℕ). start ++ entry_text names number e.reply) known.printed
          ∙ ap (λ (n : ℕ). history_text names 0 H ++ entry_text names n e.reply) place ∙ sym (history_more names 0 H e);
    }

pub stopped_at : (o : StartData) (names : List (List ℕ)) (steps : List Step) (step : Step) (r : Rehearsal) (text : List ℕ)
    (fault : RehearseFault)
    → RefusesStep r step fault → IsPlayedSoFar o names steps r text → StopsRehearsal o (steps ++ step ∷ []) fault
stopped_at o names steps step r text fault stops known more =
    subst (λ (all : List Step). IsRehearsalFault o.graph.size all fault) (sym (together steps more step))
    (stops.1 o known.history (steps ++ step ∷ more) (known.playing (step ∷ more))
    (next_is steps more step (length known.history) known.count))

-- a fault stays the first
pub stays_stopped : (o : StartData) (steps : List Step) (step : Step) (fault : RehearseFault) → StopsRehearsal o steps fault →
    StopsRehearsal o (steps ++ step ∷ []) fault
stays_stopped o steps step fault stopped more =
    subst (λ (all : List Step). IsRehearsalFault o.graph.size all fault) (sym (together steps more step))
    (stopped (step ∷ more))

onto_first_few : (x n : ℕ) (rest : List (List ℕ)) → length rest ≤ n → length (cons_to_first x rest) ≤ n + 1
onto_first_few x n [] few = omega arith
onto_first_few x n (first ∷ rest) few = omega arith

pub lines_few : (bytes : List ℕ) → length (lines bytes) ≤ length bytes
unfolding lines
lines_few [] = omega arith
lines_few (x ∷ xs) =
    let few : length (lines xs) ≤ length xs = lines_few xs in
    elim (x == 10) as (λ t. length (cond t ([] ∷ lines xs) (cons_to_first x (lines xs))) ≤ length (x ∷ xs))
    [ true ↦ omega arith | false ↦ omega (arith, onto_first_few x (length xs) (lines xs) few) ]

pub under_way_none : (o : StartData) (names : List (List ℕ)) (bytes left : List ℕ) (r : Rehearsal) (text : List ℕ)
    → ((steps : List Step) → IsRehearsalAfter o steps [] r) → text ≡ [] → left ≡ bytes →
    IsUnderWay o names (lines bytes) (lines left) 0 r text None
under_way_none o names bytes left r text playing empty same = record {
  steps = [];
  read = subst (λ (rest : List ℕ). AreRead names (lines bytes) (lines rest) []) (sym same)
      (none_read names (lines bytes));
  count = refl;
  stands = played_none o names r text playing empty;
}

one_read : (names own all left back : List (List ℕ)) (bytes : List ℕ) (steps : List Step) (step : Step) → own ≡ names →
    left ≡ bytes ∷ back
    → IsStepLine own step bytes → AreRead names all left steps → AreRead names all back (steps ++ step ∷ [])
one_read names own all left back bytes steps step same next accepted known =
    one_more names all left back bytes steps step next
    (subst (λ (ns : List (List ℕ)). IsStepLine ns step bytes) same accepted) known

one_counted : (steps : List Step) (step : Step) (line : ℕ) → line ≡ length steps →
    line + 1 ≡ length (steps ++ step ∷ [])
one_counted steps step line count = omega (arith, count, length-append steps (step ∷ []))

pub one_played : (o : StartData) (names own all left back : List (List ℕ)) (bytes : List ℕ) (line : ℕ) (r t : Rehearsal)
    (text longer : List ℕ)
    (stopped : Option RehearseFault) (step : Step) → own ≡ names → left ≡ bytes ∷ back → IsStepLine own step bytes →
    is_none stopped ≡ true
    → ((o : StartData) (steps : List Step) → IsPlayedSoFar o own steps r text → IsPlayedSoFar o own (steps ++ step ∷ []) t
    longer)
    → IsUnderWay o names all left line r text stopped → IsUnderWay o names all back (line + 1) t longer stopped
one_played o names own all left back bytes line r t text longer None step same next accepted none plays known = record {
  steps = known.steps ++ step ∷ [];
  read = one_read names own all left back bytes known.steps step same next accepted known.read;
  count = one_counted known.steps step line known.count;
  stands = subst (λ (ns : List (List ℕ)). IsPlayedSoFar o ns (known.steps ++ step ∷ []) t longer) same
      (plays o known.steps (subst (λ (ns : List (List ℕ)). IsPlayedSoFar o ns known.steps r text) (sym same) known.stands));
}
one_played o names own all left back bytes line r t text longer (Some fault) step same next accepted none plays known =
    absurd (cc)

pub one_refused : (o : StartData) (names own all left back : List (List ℕ)) (bytes : List ℕ) (line : ℕ) (r t : Rehearsal)
    (text longer : List ℕ)
    (stopped : Option RehearseFault) (step : Step) (fault : RehearseFault) → own ≡ names → left ≡ bytes ∷ back →
    IsStepLine own step bytes
    → is_none stopped ≡ true
    → ((o : StartData) (steps : List Step) → IsPlayedSoFar o own steps r text → StopsRehearsal o (steps ++ step ∷ []) fault)
    → IsUnderWay o names all left line r text stopped → IsUnderWay o names all back (line + 1) t longer (Some fault)
one_refused o names own all left back bytes line r t text longer None step fault same next accepted none stops known =
    record {
      steps = known.steps ++ step ∷ [];
      read = one_read names own all left back bytes known.steps step same next accepted known.read;
      count = one_counted known.steps step line known.count;
      stands = stops o known.steps
          (subst (λ (ns : List (List ℕ)). IsPlayedSoFar o ns known.steps r text) (sym same) known.stands);
    }
one_refused o names own all left back bytes line r t text longer
    (Some x) step fault same next accepted none stops known = absurd (cc)

pub one_passed : (o : StartData) (names own all left back : List (List ℕ)) (bytes : List ℕ) (line : ℕ) (r : Rehearsal)
    (text : List ℕ)
    (stopped : Option RehearseFault) (step : Step) → own ≡ names → left ≡ bytes ∷ back → IsStepLine own step bytes →
    is_none stopped ≡ false
    → IsUnderWay o names all left line r text stopped → IsUnderWay o names all back (line + 1) r text stopped
one_passed o names own all left back bytes line r text None step same next accepted some known = absurd (cc)
one_passed o names own all left back bytes line r text (Some fault) step same next accepted some known = record {
  steps = known.steps ++ step ∷ [];
  read = one_read names own all left back bytes known.steps step same next accepted known.read;
  count = one_counted known.steps step line known.count;
  stands = stays_stopped o known.steps step fault known.stands;
}

pub lines_read : (o : StartData) (names left back : List (List ℕ)) (bytes next : List ℕ) (line : ℕ) (r : Rehearsal)
    (text : List ℕ)
    (stopped : Option RehearseFault) → left ≡ next ∷ back → IsUnderWay o names (lines bytes) left line r text stopped →
    line + 1 ≤ length bytes
lines_read o names left back bytes next line r text stopped goes known =
    let whole : length (lines bytes) ≡ length known.read.front + length left =
    ap length known.read.whole ∙ length-append known.read.front left in
    omega (arith, whole, ap length goes, lines_few bytes, known.count, known.read.accepted.count)

pub all_played : (o : StartData) (names all left : List (List ℕ)) (line : ℕ) (r : Rehearsal) (text : List ℕ)
    (stopped : Option RehearseFault)
    → left ≡ [] → stopped ≡ None → IsUnderWay o names all left line r text stopped → IsRehearsalAnswer o names all text
all_played o names all left line r text None none played known =
    let steps : List Step = known.steps in
    let whole : steps ++ [] ≡ steps = append-nil steps in
    let playing : IsRehearsalAfter o steps known.stands.history r =
    subst (λ (s : List Step). IsRehearsalAfter o s known.stands.history r) whole (known.stands.playing []) in
    record {
      steps = steps;
      spelled = all_read names all left steps none known.read;
      history = known.stands.history;
      rehearsal = record {
        legal = playing.legal;
        length' = known.stands.count;
        few = known.stands.few;
        good = rw known.stands.count at playing.good;
        entries = playing.entries;
      };
      printed = known.stands.printed;
    }
all_played o names all left line r text (Some fault) none played known = absurd (cc)

pub first_fault : (o : StartData) (names all left : List (List ℕ)) (line : ℕ) (r : Rehearsal) (text : List ℕ)
    (stopped : Option RehearseFault)
    (fault : RehearseFault) → left ≡ [] → stopped ≡ Some fault → IsUnderWay o names all left line r text stopped →
    IsStepsFaultOn o.graph.size names all fault
first_fault o names all left line r text None fault none told known = absurd (cc)
first_fault o names all left line r text (Some x) fault none told known =
    let same : x ≡ fault = cc in
    let first : IsRehearsalFault o.graph.size known.steps x =
    subst (λ (s : List Step). IsRehearsalFault o.graph.size s x) (append-nil known.steps) (known.stands []) in (
      known.steps,
      all_read names all left known.steps none known.read,
      subst (IsRehearsalFault o.graph.size known.steps) same first,
    )

pub never_unseated : (n : ℕ) (names all : List (List ℕ)) (i : ℕ) → IsStepsFaultOn n names all (Seat i) → ⊥
never_unseated n names all i (steps, spelled, (few, good, (step, there, unseated))) =
    unseated (steps_seated names steps all spelled i step there)
