-- The names that the specs of this crate cite, passed on from one place. Declares nothing.
pub use Rattle.dg_chips.specs.Starts.{StartData}
pub use Rattle.dg_file.specs.declared.fault.FileFault.{FileFault}
pub use Rattle.dg_rules.specs.declared.entry.Entry.{Entry}
pub use Rattle.dg_rules.specs.declared.entry.TheConstants.{MAX_SEATS}
pub use Rattle.dg_invocation.specs.Invocation.{seat_count}
pub use Rattle.dg_invocation.specs.declared.invocation.Invocation.{Invocation}
pub use Rattle.dg_invocation.specs.declared.invocation.Invocation.TheVariants.{Party, Serve, Sweep, Task, Text}
pub use Rattle.dg_invocation.specs.declared.invocation.PartyTask.{PartyTask}
pub use Rattle.dg_invocation.specs.declared.invocation.ServeTask.{ServeTask}
pub use Rattle.dg_invocation.specs.declared.args_fault.ArgsFault.{ArgsFault}
pub use Rattle.dg_invocation.specs.declared.question.Question.{Question}
pub use Rattle.dg_invocation.specs.declared.question.SweepTask.{SweepTask}
pub use Rattle.dg_log.specs.Tables.{table_data_of}
pub use Rattle.dg_session.specs.Parties.{IsParty, IsPartyRefused}
pub use Rattle.dg_session.specs.declared.played.PartyRefusal.{PartyRefusal}
pub use Rattle.dg_session.specs.Ends.{IsSession}
pub use Rattle.dg_session.specs.Commands.{Setup, setup_of}
pub use Rattle.dg_session.specs.Streams.{Passage, passage}
pub use Rattle.dg_session.specs.declared.ends.SessionEnd.{SessionEnd}
pub use Rattle.dg_session.specs.declared.ends.SessionEnd.TheVariants.{Table}
pub use Rattle.dg_session.specs.declared.line_format.LineFormat.{LineFormat}
pub use Rattle.dg_session.specs.declared.line_format.LineFormat.TheVariants.{BySeat, OneSeat}
pub use Rattle.dg_sweep.specs.Answers.{Rule, of_tables}
pub use Rattle.dg_sweep.specs.Divisors.{of_amounts}
pub use Rattle.dg_sweep.specs.Sweeps.{IsSweep}
pub use Rattle.dg_sweep.specs.declared.ends.SweepEnd.{SweepEnd}
pub use Rattle.dg_system.specs.AllHeld.{IsFirstUnread, MayHoldAll}
pub use Rattle.dg_system.specs.Growth.{AppendsFront, StreamReading, StreamWriting}
pub use Rattle.dg_system.specs.Held.{Held, MayHold, IsSourceFault}
pub use Rattle.dg_system.specs.Streams.{MayGive, IsStreamFault}
pub use Rattle.dg_system.specs.declared.shortage.Shortage.TheVariants.{OutOfMemory}
pub use Rattle.dg_system.specs.declared.sources.SourceFault.{SourceFault}
pub use Rattle.dg_system.specs.declared.sources.SourceFault.TheVariants.{TooLong, Unreadable}
pub use Rattle.dg_table.specs.Closing.{IsCloseRefused, IsClosed}
pub use Rattle.dg_table.specs.Opened.{AreFresh}
pub use Rattle.dg_table.specs.Seats.{SeatView}
pub use Rattle.dg_table.specs.declared.fault.Fault.TheVariants.{Full, Log}
pub use Rattle.dg_tasks.specs.Tasks.{DescribesTable, IsAnswer, IsOnTable, RefusesContents, RefusesTable, RefusesTask}
pub use Rattle.dg_tasks.specs.declared.fault.TaskFault.{TaskFault}
pub use Rattle.dg_tasks.specs.declared.fault.TaskFault.TheVariants.{File, Source}
