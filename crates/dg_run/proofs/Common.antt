-- The names that the proofs of this crate cite, passed on from one place. Declares nothing.
pub use Rattle.dg_chips.specs.Starts.{StartData}
pub use Rattle.dg_rules.specs.declared.entry.Entry.{Entry}
pub use Rattle.dg_rules.specs.declared.entry.TheConstants.{MAX_SEATS}
pub use Rattle.dg_invocation.specs.declared.invocation.PartyTask.{PartyTask}
pub use Rattle.dg_log.specs.Tables.{table_data_of}
pub use Rattle.dg_session.proofs.Whole.{contents_count, seats_back}
pub use Rattle.dg_session.specs.Parties.{IsParty, IsPartyRefused, script_bytes}
pub use Rattle.dg_session.specs.declared.played.PartyRefusal.{PartyRefusal}
pub use Rattle.dg_session.specs.declared.played.PartyRefusal.TheVariants.{Log, Shortage}
pub use Rattle.dg_run.specs.Parties.{IsPartyOf, IsRefusedOn, early, script_names}
pub use Rattle.dg_run.specs.Sessions.{IsHeard, IsServed, IsUnclosed}
pub use Rattle.dg_run.specs.declared.fault.Fault.TheVariants.{Words}
pub use Rattle.dg_session.proofs.Entered.{entered_all, full_at_close}
pub use Rattle.dg_session.specs.Commands.{Setup}
pub use Rattle.dg_session.specs.Streams.{Passage}
pub use Rattle.dg_session.specs.declared.ends.SessionEnd.{SessionEnd}
pub use Rattle.dg_system.specs.AllHeld.{MayHoldAll}
pub use Rattle.dg_system.specs.Held.{Held}
pub use Rattle.dg_table.proofs.Complete.{all_there, none_missing}
pub use Rattle.dg_table.specs.Closing.{IsCloseRefused, IsClosed}
pub use Rattle.dg_table.specs.Opened.{AreFresh, IsSeatCount}
pub use Rattle.dg_table.specs.Seats.{SeatView}
pub use Rattle.dg_tasks.specs.Tasks.{DescribesTable}
pub use Rattle.std.proofs.Common.{Bor, Err, Global, List, None, Ok, Option, Result, Some, Vec, [], ap, arith, inl, inr, length, map, refl, rules, subst, suc, sym, take, ℕ, ◌++◌, ◌+◌, ◌<◌, ◌∙◌, ◌∷◌, ◌≡◌, ◌≤◌}
pub use Rattle.std.proofs.Math.Seq.{take-append_seam}
pub use Rattle.std.proofs.lemmas.List.{length-map, length-take-le, take_more}
pub use Rattle.std.proofs.lemmas.Result.{IfErr-weaker, on_ok_weaker}
pub use Rattle.std.specs.Io.KnownBytes.{Keeps}
