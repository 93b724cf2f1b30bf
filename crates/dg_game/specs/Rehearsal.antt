-- A schedule that is being played.
--   KeepsLook o H steps seat x == x is the look that the seat keeps after the history H, if it keeps one
--   IsRehearsalAfter o steps H r == after the first steps the history is H, and r holds the game, its vertex
--                                    q and the looks kept
--   IsRehearsalState r           == r is what some schedule has come to
--   PlaysStep r step e t    == wherever r is come to and the step is next, it gives the entry e and
--                                    comes to t
--   RefusesStep r step fault    == wherever r is come to and the step is next, the fault is the first of
--                                    the schedule, and not want of memory
use Rattle.std.specs.Prelude.{◌≡◌, ◌≢◌, ℕ, List, [], ◌∷◌, ◌++◌, length, slice_get, Option, Some, None}
use Rattle.std.specs.List.{slice_index_or}
use Rattle.dg_chips.specs.Starts.{StartData}
use Rattle.dg_rules.specs.Legal.{IsSeatNumber, IsLegal}
use Rattle.dg_rules.specs.Look.{IsLookAt}
use Rattle.dg_rules.specs.State.{LeadsTo}
use Rattle.dg_rules.specs.declared.entry.Entry.{Entry}
use Rattle.dg_rules.specs.declared.look.LookData.{LookData}
use Rattle.dg_rules.specs.declared.step.Step.{Step}
use Rattle.dg_game.specs.Schedule.{KeepsLookAt, IsStepEntry, AreGoodBefore}
use Rattle.dg_game.specs.ScheduleFaults.{IsRehearsalFault}
use Rattle.dg_game.specs.declared.schedule.Rehearsal.{Rehearsal}
use Rattle.dg_game.specs.declared.schedule.RehearseFault.{RehearseFault}
use Rattle.dg_game.specs.declared.schedule.RehearseFault.TheVariants.{OutOfMemory}

abbrev pub KeepsLook : StartData → List Entry → List Step → ℕ → Option LookData → Type 0
KeepsLook o H steps seat (Some x) = KeepsLookAt steps seat (length H) x.number × IsLookAt o H x
KeepsLook o H steps seat None = (i : ℕ) → ¬ KeepsLookAt steps seat (length H) i

pub record IsRehearsalAfter (o : StartData) (steps : List Step) (H : List Entry)
    (r : Rehearsal) : Type 0 where
  pub leads : LeadsTo o H r.game
  pub q : r.q ≡ o.q
  pub legal : IsLegal o H
  pub good : AreGoodBefore o.graph.size steps (length H)
  pub entries : (j : ℕ) (step : Step) (e : Entry) → slice_get steps j ≡ Some step →
      slice_get H j ≡ Some e → IsStepEntry steps j step e
  pub places : length r.looks ≡ 65
  pub looks : (seat : ℕ) → IsSeatNumber seat → KeepsLook o H steps seat (slice_index_or r.looks seat None)

abbrev pub IsRehearsalState : Rehearsal → Type 0
IsRehearsalState r = (o : StartData) × (H : List Entry) × (steps : List Step) × IsRehearsalAfter o steps H r

abbrev pub PlaysStep : Rehearsal → Step → Entry → Rehearsal → Type 0
PlaysStep r step e t = (o : StartData) (H : List Entry) (steps : List Step) → IsRehearsalAfter o steps H r →
    slice_get steps (length H) ≡ Some step → IsRehearsalAfter o steps (H ++ e ∷ []) t

abbrev pub RefusesStep : Rehearsal → Step → RehearseFault → Type 0
RefusesStep r step fault = (fault ≢ OutOfMemory) ×
    ((o : StartData) (H : List Entry) (steps : List Step) → IsRehearsalAfter o steps H r →
    slice_get steps (length H) ≡ Some step → IsRehearsalFault o.graph.size steps fault)
