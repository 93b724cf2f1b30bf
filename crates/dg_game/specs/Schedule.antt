-- Schedules: lists of steps, each a seat and a command.
--   IsLookCall call                == the call is a look
--   UsesUpLook command             == the command uses a look up
--   ChangesKeptLook command        == the command takes a look, or uses one up
--   KeepsLookAt steps seat j i     == before step j, step i is the last look that the seat has taken and
--                                     not used up
--   IsStepRequest steps seat j c r == r is the request of the command c, if the seat gives it as step j
--   IsStepEntry steps j step e     == the entry has the seat of step j, and the request of its command
--   HasLook steps seat j c         == if the command c enters what was computed on a look, the seat keeps
--                                     one before step j
--   HasTrials n c                  == if the command c is a rank test, it is within the limits on n
--                                     vertices
--   IsGoodStep n steps j step      == step j has a seat, a look if it needs one, and no trials past the
--                                     limits
--   AreGoodBefore n steps j        == all steps before step j are good
--   IsRehearsal o steps H          == H is a legal history from the start o, whose entries are those of
--                                     the steps, in order; these are all good, and no more than a history
--                                     has room for
use Rattle.std.specs.Prelude.{◌≡◌, ℕ, ◌<◌, ◌≤◌, List, length, slice_get, Some, ⊤}
use Rattle.dg_chips.specs.Starts.{StartData}
use Rattle.dg_rules.specs.Legal.{IsSeatNumber, IsLegal}
use Rattle.dg_rules.specs.Requests.{call_request}
use Rattle.dg_rules.specs.declared.entry.Entry.{Entry}
use Rattle.dg_rules.specs.declared.entry.Plain.{Plain}
use Rattle.dg_rules.specs.declared.entry.Request.{Request}
use Rattle.dg_rules.specs.declared.game.TheConstants.{MAX_ENTRIES}
use Rattle.dg_rules.specs.declared.step.Command.{Command}
use Rattle.dg_rules.specs.declared.step.Command.TheVariants.{Call, Commit, Rank}
use Rattle.dg_rules.specs.declared.step.Step.{Step}
use Rattle.dg_rank.specs.Ranks.{IsTestable}
use Rattle.dg_rules.specs.declared.entry.Plain.TheVariants as plain
use Rattle.dg_rules.specs.declared.entry.Request.TheVariants as request

abbrev pub IsLookCall : Plain → Type 0
IsLookCall plain.Look = ⊤
IsLookCall call = ⊥

abbrev pub UsesUpLook : Command → Type 0
UsesUpLook (Call p) = ⊥
UsesUpLook Commit = ⊤
UsesUpLook (Rank k) = ⊤

abbrev pub ChangesKeptLook : Command → Type 0
ChangesKeptLook (Call p) = IsLookCall p
ChangesKeptLook Commit = ⊤
ChangesKeptLook (Rank k) = ⊤

pub record KeepsLookAt (steps : List Step) (seat j i : ℕ) : Type 0 where
  pub before : i < j
  pub look : slice_get steps i ≡ Some (record { seat = seat; command = Call plain.Look })
  pub last : (k : ℕ) (step : Step) → i < k → k < j → slice_get steps k ≡ Some step →
      step.seat ≡ seat → ¬ ChangesKeptLook step.command

abbrev pub IsStepRequest : List Step → ℕ → ℕ → Command → Request → Type 0
IsStepRequest steps seat j (Call p) r = r ≡ call_request p
IsStepRequest steps seat j Commit r = (i : ℕ) × KeepsLookAt steps seat j i × (r ≡ request.Judge i)
IsStepRequest steps seat j (Rank k) r = (i : ℕ) × KeepsLookAt steps seat j i × (r ≡ request.Rank i k)

pub record IsStepEntry (steps : List Step) (j : ℕ) (step : Step) (e : Entry) : Type 0 where
  pub seat : e.seat ≡ step.seat
  pub request : IsStepRequest steps step.seat j step.command e.request

abbrev pub HasLook : List Step → ℕ → ℕ → Command → Type 0
HasLook steps seat j (Call p) = ⊤
HasLook steps seat j Commit = (i : ℕ) × KeepsLookAt steps seat j i
HasLook steps seat j (Rank k) = (i : ℕ) × KeepsLookAt steps seat j i

abbrev pub HasTrials : ℕ → Command → Type 0
HasTrials n (Call p) = ⊤
HasTrials n Commit = ⊤
HasTrials n (Rank k) = IsTestable n k

abbrev pub IsGoodStep : ℕ → List Step → ℕ → Step → Type 0
IsGoodStep n steps j step =
    IsSeatNumber step.seat × HasLook steps step.seat j step.command × HasTrials n step.command

abbrev pub AreGoodBefore : ℕ → List Step → ℕ → Type 0
AreGoodBefore n steps j =
    (k : ℕ) (step : Step) → k < j → slice_get steps k ≡ Some step → IsGoodStep n steps k step

pub record IsRehearsal (o : StartData) (steps : List Step) (H : List Entry) : Type 0 where
  pub legal : IsLegal o H
  pub length' : length H ≡ length steps
  pub few : length steps ≤ MAX_ENTRIES
  pub good : AreGoodBefore o.graph.size steps (length steps)
  pub entries : (j : ℕ) (step : Step) (e : Entry) → slice_get steps j ≡ Some step →
      slice_get H j ≡ Some e → IsStepEntry steps j step e
