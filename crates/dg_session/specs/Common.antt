-- The names that the specs of this crate cite, passed on from one place. Declares nothing.
pub use Rattle.dg_analyst.specs.Views.{LookView}
pub use Rattle.dg_chips.specs.Vector.{Vector, at}
pub use Rattle.dg_rules.specs.History.{gifts_in, position_after}
pub use Rattle.dg_rules.specs.Position.{ShowsPosition}
pub use Rattle.dg_rules.specs.Requests.{call_request}
pub use Rattle.dg_rules.specs.declared.entry.Entry.{Entry}
pub use Rattle.dg_rules.specs.declared.entry.Request.{Request}
pub use Rattle.dg_rules.specs.declared.entry.Request.TheVariants.{Judge, Look}
pub use Rattle.dg_rules.specs.declared.step.Command.{Command}
pub use Rattle.dg_rules.specs.declared.step.Command.TheVariants.{Call, Commit, Rank}
pub use Rattle.dg_lines.specs.Commands.{SpellsCommand}
pub use Rattle.dg_lines.specs.Cuts.{lines}
pub use Rattle.dg_lines.specs.LineFaults.{IsLineFault, line_fault_text}
pub use Rattle.dg_lines.specs.Steps.{IsSeatedLine}
pub use Rattle.dg_lines.specs.Streams.{BeginsWithLines, HasNoNewline, last_line, with_newline}
pub use Rattle.dg_lines.specs.Texts.{HasNames, entry_text, pairs, text_of}
pub use Rattle.dg_lines.specs.declared.line.LineFault.{LineFault}
pub use Rattle.dg_lines.specs.declared.line.LineFault.TheVariants.{Seat}
pub use Rattle.dg_log.specs.Numbered.{IsPrefixOf, StandIn}
pub use Rattle.dg_log.specs.Tables.{TableData}
pub use Rattle.dg_rank.specs.Ranks.{IsTestable}
pub use Rattle.dg_system.specs.Growth.{AppendsFront, StreamWriting}
pub use Rattle.dg_system.specs.declared.shortage.Shortage.{Shortage}
pub use Rattle.dg_system.specs.declared.shortage.Shortage.TheVariants.{OutOfMemory, Spawn}
pub use Rattle.dg_table.specs.Closing.{IsCloseRefused}
pub use Rattle.dg_table.specs.Faults.{RefusesCall}
pub use Rattle.dg_table.specs.Histories.{HasPrefix, IsHistoryOf}
pub use Rattle.dg_table.specs.Opened.{AreFresh}
pub use Rattle.dg_table.specs.Seats.{SeatView, entries_of}
