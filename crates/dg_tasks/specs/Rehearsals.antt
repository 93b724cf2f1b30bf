-- A schedule that is played and printed.
--   IsRehearsalAnswer o names lines text == the lines spell steps, and the text is that of the legal history
--                                           which these steps make from the start o
--   IsPlayedSoFar o names steps r text   == r is what the steps have come to from the start o, whatever steps
--                                           follow, and the text is that of their history, which has room for
--                                           them
--   StopsRehearsal o steps fault         == the fault is the first of these steps, whatever steps follow
--   MayGoOn names r text                 == so some steps from some start have come to this
--   Played                               == what steps have come to, and the text of their history
--   played r text                        == that of these
--   GoesOn names step old new result     == of all such steps, with this one they come to the new; or the
--                                           fault is the first of them with this one
use Rattle.std.specs.Prelude.{◌≡◌, ℕ, List, [], ◌∷◌, ◌++◌, length, ◌≤◌, Result, MatchResult}
use Rattle.dg_tasks.specs.Common.{StartData, IsRehearsalAfter, IsRehearsal, IsRehearsalFault, Entry, MAX_ENTRIES, Rehearsal, RehearseFault, Step, AreStepsOf, history_text}

pub record IsRehearsalAnswer (o : StartData) (names : List (List ℕ)) (lines : List (List ℕ))
    (text : List ℕ) : Type 0 where
  pub steps : List Step
  pub spelled : AreStepsOf names steps lines
  pub history : List Entry
  pub rehearsal : IsRehearsal o steps history
  pub printed : text ≡ history_text names 0 history

pub record IsPlayedSoFar (o : StartData) (names : List (List ℕ)) (steps : List Step) (r : Rehearsal)
    (text : List ℕ) : Type 0 where
  pub history : List Entry
  pub playing : (more : List Step) → IsRehearsalAfter o (steps ++ more) history r
  pub count : length history ≡ length steps
  pub few : length steps ≤ MAX_ENTRIES
  pub printed : text ≡ history_text names 0 history

abbrev pub StopsRehearsal : StartData → List Step → RehearseFault → Type 0
StopsRehearsal o steps fault = (more : List Step) → IsRehearsalFault o.graph.size (steps ++ more) fault

abbrev pub MayGoOn : List (List ℕ) → Rehearsal → List ℕ → Type 0
MayGoOn names r text =
    (o : StartData) × (steps : List Step) × (length names ≡ o.graph.size) × IsPlayedSoFar o names steps r text

pub record Played : Type 0 where
  pub rehearsal : Rehearsal
  pub text : List ℕ

abbrev pub played : Rehearsal → List ℕ → Played
played r text = record { rehearsal = r; text = text }

abbrev pub GoesOn : {B : Type 0} → List (List ℕ) → Step → Played → Played
    → Result B RehearseFault → Type 0
GoesOn names step old new result = MatchResult result
    (λ _. (o : StartData) (steps : List Step) → IsPlayedSoFar o names steps old.rehearsal old.text →
    IsPlayedSoFar o names (steps ++ step ∷ []) new.rehearsal new.text)
    (λ fault. (o : StartData) (steps : List Step) → IsPlayedSoFar o names steps old.rehearsal old.text →
    StopsRehearsal o (steps ++ step ∷ []) fault)
