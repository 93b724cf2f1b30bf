-- What is computed on looks, and how it is entered. x and y are a seat before and after.
--   IsReckoned q x found              == found is the look x, with the verdict that is computed for it
--                                        from the vertex q
--   IsCommitted table found r x y     == the seat has entered the verdict found on its look, with the
--                                        receipt r
--   IsRankCommitted table found r x y == so it has the answer of a rank test found on its look
--   RefusesCommit table x y fault     == the entry was refused with the fault; the seat knows what it
--                                        knew, and after `OutOfMemory` it has met nothing new
--   StaleIsCommitted                  == the entry of a look that is stale, though nothing was computed,
--                                        is that of each verdict on the look
--   TriedIsCommitted                  == and of each answer of the rank test that was asked for
use Rattle.std.specs.Prelude.{◌≡◌, ℕ}
use Rattle.dg_rules.specs.Look.{finding_degree}
use Rattle.dg_rules.specs.declared.entry.Entry.{Entry}
use Rattle.dg_rules.specs.declared.finding.Finding.TheVariants.{Judged, Ranked}
use Rattle.dg_rules.specs.declared.finding.Question.TheVariants.{Judge, Rank}
use Rattle.dg_log.specs.Tables.{TableData}
use Rattle.dg_table.specs.Faults.{RefusesCall, KeepsAfterRefusal}
use Rattle.dg_table.specs.Seats.{SeatView}
use Rattle.dg_table.specs.Settled.{IsSettled, IsStale}
use Rattle.dg_table.specs.declared.fault.Fault.{Fault}
use Rattle.dg_verdict.specs.declared.rank_verdict.RankVerdict.{RankVerdict}
use Rattle.dg_verdict.specs.declared.verdict.Verdict.{Verdict}
use Rattle.dg_analyst.specs.Views.{LookView, LookWithFinding, IsJudged}

pub record IsReckoned (q : ℕ) (x : LookView) (found : LookWithFinding Verdict) : Type 0 where
  pub look : found.look ≡ x
  pub judged : IsJudged q x found.verdict

abbrev pub IsCommitted : TableData → LookWithFinding Verdict → ℕ × Entry → SeatView → SeatView → Type 0
IsCommitted table found r x y =
    IsSettled table found.look.receipt (Judged found.verdict) r x y

abbrev pub IsRankCommitted : TableData → LookWithFinding RankVerdict → ℕ × Entry → SeatView → SeatView
    → Type 0
IsRankCommitted table found r x y =
    IsSettled table found.look.receipt (Ranked found.verdict) r x y

abbrev pub RefusesCommit : TableData → SeatView → SeatView → Fault → Type 0
RefusesCommit table x y fault = KeepsAfterRefusal fault x y × RefusesCall table y fault

abbrev pub StaleIsCommitted : Type 0
StaleIsCommitted = (table : TableData) (found : LookWithFinding Verdict) (r : ℕ × Entry) (x y : SeatView) →
    IsStale table found.look.receipt Judge r x y → IsCommitted table found r x y

abbrev pub TriedIsCommitted : Type 0
TriedIsCommitted = (table : TableData) (found : LookWithFinding RankVerdict) (r : ℕ × Entry)
    (x y : SeatView) → IsStale table found.look.receipt (Rank (finding_degree found.verdict)) r x y →
    IsRankCommitted table found r x y
