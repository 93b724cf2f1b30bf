-- When a schedule is refused, and for which step.
--   AsksTooMany n c                == the command c is a rank test past one of the limits on n vertices
--   HasStep steps i P              == there is a step i, and it has the property P
--   IsRehearsalFault n steps fault == on n vertices the fault is the first one; nothing is said of want
--                                     of memory
use Rattle.std.specs.Prelude.{◌≡◌, ℕ, ◌<◌, ◌≤◌, List, slice_get, Some, ⊤}
use Rattle.dg_rules.specs.Legal.{IsSeatNumber}
use Rattle.dg_rules.specs.declared.game.TheConstants.{MAX_ENTRIES}
use Rattle.dg_rules.specs.declared.step.Command.{Command}
use Rattle.dg_rules.specs.declared.step.Command.TheVariants.{Call, Commit, Rank}
use Rattle.dg_rules.specs.declared.step.Step.{Step}
use Rattle.dg_rank.specs.Limits.{IsPastLimits}
use Rattle.dg_game.specs.Schedule.{HasLook, AreGoodBefore}
use Rattle.dg_game.specs.declared.schedule.RehearseFault.{RehearseFault}
use Rattle.dg_game.specs.declared.schedule.RehearseFault.TheVariants.{Seat, Full, NoLook, TooMany, OutOfMemory}

abbrev pub AsksTooMany : ℕ → Command → Type 0
AsksTooMany n (Call p) = ⊥
AsksTooMany n Commit = ⊥
AsksTooMany n (Rank k) = IsPastLimits n k

abbrev pub HasStep : List Step → ℕ → (Step → Type 0) → Type 0
HasStep steps i P = (step : Step) × (slice_get steps i ≡ Some step) × P step

abbrev pub IsRehearsalFault : ℕ → List Step → RehearseFault → Type 0
IsRehearsalFault n steps (Seat i) =
    (i ≤ MAX_ENTRIES) × AreGoodBefore n steps i × HasStep steps i (λ step. ¬ IsSeatNumber step.seat)
IsRehearsalFault n steps (Full i) =
    (i ≡ MAX_ENTRIES) × AreGoodBefore n steps i × HasStep steps i (λ step. IsSeatNumber step.seat)
IsRehearsalFault n steps (NoLook i) = (i < MAX_ENTRIES) × AreGoodBefore n steps i ×
    HasStep steps i (λ step. IsSeatNumber step.seat × (¬ HasLook steps step.seat i step.command))
IsRehearsalFault n steps (TooMany i) = (i < MAX_ENTRIES) × AreGoodBefore n steps i ×
    HasStep steps i (λ step. IsSeatNumber step.seat × HasLook steps step.seat i step.command ×
    AsksTooMany n step.command)
IsRehearsalFault n steps OutOfMemory = ⊤
