-- The names that the specs of this crate cite, passed on from one place. Declares nothing.
pub use Rattle.dg_chips.specs.Starts.{StartData}
pub use Rattle.dg_chips.specs.Vector.{Vector, at}
pub use Rattle.dg_chips.specs.declared.moves.Move.{Move}
pub use Rattle.dg_rules.specs.History.{gifts_in, position_after}
pub use Rattle.dg_rules.specs.Legal.{IsLegal, IsSeatNumber}
pub use Rattle.dg_rules.specs.Look.{KeepsFinding, request_for_finding, request_for_question, finding_degree}
pub use Rattle.dg_rules.specs.Position.{Position, ShowsPosition}
pub use Rattle.dg_rules.specs.Replies.{Replies}
pub use Rattle.dg_rules.specs.Requests.{choice_request}
pub use Rattle.dg_rules.specs.State.{LeadsTo, GameState}
pub use Rattle.dg_rules.specs.declared.entry.Entry.{Entry}
pub use Rattle.dg_rules.specs.declared.entry.Reply.{Reply}
pub use Rattle.dg_rules.specs.declared.entry.Reply.TheVariants.{Looked, Rank, Stale, Verdict}
pub use Rattle.dg_rules.specs.declared.entry.Request.{Request}
pub use Rattle.dg_rules.specs.declared.entry.Request.TheVariants.{Look}
pub use Rattle.dg_rules.specs.declared.entry.TheConstants.{MAX_SEATS}
pub use Rattle.dg_rules.specs.declared.finding.Finding.{Finding}
pub use Rattle.dg_rules.specs.declared.finding.Finding.TheVariants.{Judged, Ranked}
pub use Rattle.dg_rules.specs.declared.finding.Question.{Question}
pub use Rattle.dg_rules.specs.declared.game.TheConstants.{MAX_ENTRIES}
pub use Rattle.dg_rules.specs.declared.look.LookData.{LookData}
pub use Rattle.dg_log.specs.Numbered.{AreBelow, IsPrefixOf, IsLongerPrefix, StandIn}
pub use Rattle.dg_log.specs.Tables.{TableData}
pub use Rattle.dg_log.specs.Written.{Written}
pub use Rattle.dg_log.specs.declared.name.Name.{Ghosts}
pub use Rattle.dg_theory.specs.Firing.{FiresTo}
pub use Rattle.dg_theory.specs.Multigraph.{Multigraph}
pub use Rattle.dg_verdict.specs.RankTests.{IsRightRank}
pub use Rattle.dg_verdict.specs.Right.{IsRightVerdict}
