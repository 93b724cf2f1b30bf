-- Looks, and what was found on them.
--   LookView          == a look's entry, with its number, and what is kept of it
--   LookWithFinding A == a look, and what was found on it: a verdict, or the answer of a rank test
--   IsTakenLook o x   == what is kept of the look x of a table with the start o is that of its entry, and
--                        has the vertices of the start
--   IsJudged q x v    == v is the verdict that is computed, from the vertex q, for the look x, its amounts
--                        on its graph
--   IsTried x k w v   == v is the right answer of the rank test of degree k for the look x, its amounts on
--                        its graph; the degree is within the limits, and there may be w workers
use Rattle.std.specs.Prelude.{ℕ}
use Rattle.dg_chips.specs.Starts.{StartData}
use Rattle.dg_chips.specs.Vector.{at}
use Rattle.dg_rules.specs.declared.entry.Entry.{Entry}
use Rattle.dg_rules.specs.declared.look.LookData.{LookData}
use Rattle.dg_rank.specs.Ranks.{IsTestable, IsWorkerCount}
use Rattle.dg_table.specs.Looks.{IsSizedLook, IsLookOf}
use Rattle.dg_verdict.specs.RankTests.{IsRightRank}
use Rattle.dg_verdict.specs.Right.{IsVerdictOn}
use Rattle.dg_verdict.specs.declared.rank_verdict.RankVerdict.{RankVerdict}
use Rattle.dg_verdict.specs.declared.verdict.Verdict.{Verdict}

pub record LookView : Type 0 where
  pub receipt : ℕ × Entry
  pub shown : LookData

pub record LookWithFinding (A : Type 0) : Type 0 where
  pub look : LookView
  pub verdict : A

pub record IsTakenLook (o : StartData) (x : LookView) : Type 0 where
  pub look : IsLookOf x.receipt x.shown
  pub vertices : IsSizedLook o.graph.size x.shown

abbrev pub IsJudged : ℕ → LookView → Verdict → Type 0
IsJudged q x v = IsVerdictOn x.shown.graph q (at x.shown.position) v

pub record IsTried (x : LookView) (k w : ℕ) (v : RankVerdict) : Type 0 where
  pub within : IsTestable x.shown.graph.size k
  pub workers : IsWorkerCount w
  pub right : IsRightRank x.shown.graph (at x.shown.position) k v
