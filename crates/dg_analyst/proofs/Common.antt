-- The names that the proofs of this crate cite, passed on from one place. Declares nothing.
pub use Rattle.dg_analyst.specs.Commits.{StaleIsCommitted, TriedIsCommitted}
pub use Rattle.dg_analyst.specs.Views.{LookView}
pub use Rattle.dg_rules.specs.History.{gifts_in}
pub use Rattle.dg_rules.specs.Look.{KeepsFinding, request_for_finding, request_for_question, finding_degree}
pub use Rattle.dg_rules.specs.declared.entry.Entry.{Entry}
pub use Rattle.dg_rules.specs.declared.entry.Reply.TheVariants.{Stale}
pub use Rattle.dg_rules.specs.declared.entry.Request.{Request}
pub use Rattle.dg_rules.specs.declared.entry.Request.TheVariants.{Look}
pub use Rattle.dg_rules.specs.declared.finding.Finding.{Finding}
pub use Rattle.dg_rules.specs.declared.finding.Finding.TheVariants.{Judged, Ranked}
pub use Rattle.dg_rules.specs.declared.finding.Question.{Question}
pub use Rattle.dg_rules.specs.declared.finding.Question.TheVariants.{Judge, Rank}
pub use Rattle.dg_rules.specs.declared.look.LookData.{LookData}
pub use Rattle.dg_log.specs.Tables.{TableData}
pub use Rattle.dg_table.proofs.Findings.{last_after}
pub use Rattle.dg_table.specs.Answered.{IsEnteredAfter, entering}
pub use Rattle.dg_table.specs.Looks.{IsLastLook, IsLookOf, last_look}
pub use Rattle.dg_table.specs.Seats.{SeatView}
pub use Rattle.dg_table.specs.Settled.{IsSettled, IsStale}
pub use Rattle.std.proofs.Common.{List, MatchOption, None, Option, Some, [], ap, refl, rules, subst, sym, ℕ, ◌++◌, ◌<◌, ◌∙◌, ◌∷◌, ◌≡◌}
