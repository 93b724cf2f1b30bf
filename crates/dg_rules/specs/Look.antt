-- What a seat keeps of a look, and what was computed on it.
--   IsLookAt o H x                  == x holds the number of a look of the history H, and the gift count, the
--                                      graph and the amounts at it, and any drift
--   finding_degree v                == the degree of the rank test whose verdict v is
--   IsRightFinding q x f            == the finding f is right on the graph of the look x, from the vertex q,
--                                      for its amounts
--   request_for_finding i f         == the request by which the finding f on the look of number i is entered
--   request_for_question i question == the request by which the question is asked on the look of number i
--   KeepsFinding f reply            == a verdict entered keeps the reduced divisor and the burning order that
--                                      were found, and that of a rank test is entered as it was found
use Rattle.std.specs.Prelude.{◌≡◌, ℕ, List, take, ⊤}
use Rattle.dg_rules.specs.Common.{at, StartData, IsRightVerdict, IsRightRank, RankVerdict, AtLeast, Below}
use Rattle.dg_rules.specs.Position.{ShowsPosition}
use Rattle.dg_rules.specs.History.{position_after, gifts_in}
use Rattle.dg_rules.specs.Legal.{HasLook}
use Rattle.dg_rules.specs.declared.entry.Entry.{Entry}
use Rattle.dg_rules.specs.declared.entry.Request.{Request}
use Rattle.dg_rules.specs.declared.entry.Request.TheVariants.{Judge, Rank as RankRequest}
use Rattle.dg_rules.specs.declared.entry.Reply.{Reply}
use Rattle.dg_rules.specs.declared.entry.Reply.TheVariants.{Verdict, Rank as RankReply}
use Rattle.dg_rules.specs.declared.look.LookData.{LookData}
use Rattle.dg_rules.specs.declared.finding.Finding.{Finding}
use Rattle.dg_rules.specs.declared.finding.Finding.TheVariants.{Judged, Ranked}
use Rattle.dg_rules.specs.declared.finding.Question.{Question}
use Rattle.dg_rules.specs.declared.finding.Question.TheVariants as question

pub record IsLookAt (o : StartData) (H : List Entry) (x : LookData) : Type 0 where
  pub look : HasLook H x.number
  pub gifts : x.gifts ≡ gifts_in (take x.number H)
  pub graph : x.graph ≡ (position_after o (take x.number H)).graph
  pub amounts : ShowsPosition (position_after o (take x.number H)) x.position

abbrev pub finding_degree : RankVerdict → ℕ
finding_degree (AtLeast k) = k
finding_degree (Below k E) = k

abbrev pub IsRightFinding : ℕ → LookData → Finding → Type 0
IsRightFinding q x (Judged v) = IsRightVerdict x.graph q (at x.position) v
IsRightFinding q x (Ranked v) = IsRightRank x.graph (at x.position) (finding_degree v) v

abbrev pub request_for_finding : ℕ → Finding → Request
request_for_finding i (Judged v) = Judge i
request_for_finding i (Ranked v) = RankRequest i (finding_degree v)

abbrev pub request_for_question : ℕ → Question → Request
request_for_question i question.Judge = Judge i
request_for_question i (question.Rank k) = RankRequest i k

abbrev pub KeepsFinding : Finding → Reply → Type 0
KeepsFinding (Judged v) (Verdict w) = (w.reduced ≡ v.reduced) × (w.order ≡ v.order)
KeepsFinding (Ranked v) (RankReply w) = w ≡ v
KeepsFinding finding reply = ⊤
