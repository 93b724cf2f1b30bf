-- The names that the proofs of this crate cite, passed on from one place. Declares nothing.
pub use Rattle.dg_analyst.specs.Views.{IsTakenLook, IsTried, LookView}
pub use Rattle.dg_chips.specs.Starts.{StartData}
pub use Rattle.dg_rules.proofs.LegalLaws.{legal_none, legal_sized}
pub use Rattle.dg_rules.proofs.ListLaws.{slice_get-seam}
pub use Rattle.dg_rules.specs.LegalLaws.{IsSizedReply}
pub use Rattle.dg_rules.specs.Look.{request_for_finding, request_for_question, finding_degree}
pub use Rattle.dg_rules.specs.Requests.{call_request}
pub use Rattle.dg_rules.specs.declared.entry.Entry.{Entry}
pub use Rattle.dg_rules.specs.declared.entry.Plain.{Plain}
pub use Rattle.dg_rules.specs.declared.entry.Request.{Request}
pub use Rattle.dg_rules.specs.declared.finding.Finding.{Finding}
pub use Rattle.dg_rules.specs.declared.finding.Finding.TheVariants.{Judged, Ranked}
pub use Rattle.dg_rules.specs.declared.finding.Question.{Question}
pub use Rattle.dg_rules.specs.declared.finding.Question.TheVariants.{Judge as JudgeQuestion, Rank as RankQuestion}
pub use Rattle.dg_rules.specs.declared.step.Command.{Command}
pub use Rattle.dg_rules.specs.declared.step.Command.TheVariants.{Call, Commit, Rank}
pub use Rattle.dg_lines.proofs.Stepping.{seated_parts}
pub use Rattle.dg_lines.proofs.Streams.{begins_more, begins_none, begins_one, begins_then, come_last, come_then, line_shorter, one_cutting, one_line, part_front, part_line, part_plain, part_whole}
pub use Rattle.dg_lines.specs.Commands.{SpellsCommand}
pub use Rattle.dg_lines.specs.LineFaults.{IsLineFault, line_fault_text}
pub use Rattle.dg_lines.specs.Steps.{IsSeatedLine}
pub use Rattle.dg_lines.specs.Streams.{BeginsWithLines, HasNoNewline, last_line, with_newline}
pub use Rattle.dg_lines.specs.Texts.{HasNames, entry_text, pairs}
pub use Rattle.dg_lines.specs.declared.line.LineFault.{LineFault}
pub use Rattle.dg_log.specs.Numbered.{AreBelow, IsPrefixOf, StandIn}
pub use Rattle.dg_log.specs.Tables.{TableData, table_data_of}
pub use Rattle.dg_rank.proofs.Numbering.{past_within}
pub use Rattle.dg_rank.specs.Limits.{IsPastLimits}
pub use Rattle.dg_rank.specs.Ranks.{IsRankFault, IsTestable}
unfoldable pub use Rattle.dg_session.specs.State.{Answers}
pub use Rattle.dg_session.specs.Ends.{WritesFront, Ends, IsAllRead, IsOver, IsSession, Stops, Writes}
pub use Rattle.dg_session.specs.Commands.{AnswersCommand, AnswersLine, Ascend, CallsTable, ComesAfter, Enters, Gains, OfCommand, OfLine, RefusesCommand, Setup, kept_after, look_after, looks_named, setup_of}
pub use Rattle.dg_session.specs.SoFar.{Goes, Halts, Handles, Hears, Obeys, IsReady, IsWritten, RefusesPart, Says, Seated, SoFar, Takes, Tells, answer_entries, answer_text, beginning, heard, look_of, made_by, said_by, seated, so_far, state_of}
pub use Rattle.dg_session.specs.State.{AreInOrder, Does, EntriesSoFarView, IsFor, IsForNobody, ReplacesAt, State, Turn, begun}
pub use Rattle.dg_session.specs.Streams.{Cuts, IsLine, IsTooLong, Passage, passage}
pub use Rattle.dg_session.specs.declared.answering.Answer.{Answer}
pub use Rattle.dg_session.specs.declared.answering.Answer.TheVariants.{BadLine, Made, NoLook}
pub use Rattle.dg_session.specs.declared.ends.SessionEnd.{SessionEnd}
pub use Rattle.dg_session.specs.declared.ends.SessionEnd.TheVariants.{LongLine, Memory, Read, Spawn, Table, Turns, Write}
pub use Rattle.dg_session.specs.declared.ends.TheConstants.{MAX_LINE, MAX_LINES, READ_SIZE}
pub use Rattle.dg_session.specs.declared.line_format.LineFormat.TheVariants.{BySeat}
pub use Rattle.dg_system.proofs.Growing.{appends_more, appends_none}
pub use Rattle.dg_system.proofs.InputReads.{chunk_size, consumes_kept, consumes_more, consumes_none, read_chunk}
pub use Rattle.dg_system.specs.Growth.{AppendsFront, StreamWriting}
pub use Rattle.dg_table.proofs.Counts.{seats_counted}
pub use Rattle.dg_table.proofs.Numbered.{begins_length, begins_on, stand_longer}
pub use Rattle.dg_table.proofs.Placed.{get_set}
pub use Rattle.dg_table.specs.Answered.{IsAnswered, IsEnteredAfter, entering}
pub use Rattle.dg_table.specs.Closing.{IsClosed, AreAuditTotals, IsCloseRefused}
pub use Rattle.dg_table.specs.Faults.{RefusesCall, KeepsAfterRefusal}
pub use Rattle.dg_table.specs.Histories.{HasPrefix, IsHistoryOf}
pub use Rattle.dg_table.specs.Opened.{AreFresh}
pub use Rattle.dg_table.specs.Seats.{Keeps, HasMet, SeatView, entries_of}
pub use Rattle.dg_table.specs.Settled.{IsSettled, IsStale}
pub use Rattle.dg_table.specs.declared.fault.Fault.{Fault}
pub use Rattle.dg_table.specs.declared.fault.Fault.TheVariants.{Full}
pub use Rattle.dg_verdict.specs.declared.rank_verdict.RankVerdict.{RankVerdict}
pub use Rattle.dg_verdict.specs.declared.rank_verdict.RankVerdict.TheVariants.{AtLeast, Below}
pub use Rattle.dg_chips.specs.Vector.{Vector, at}
pub use Rattle.dg_rules.proofs.StepLaw.{vertices_stay}
pub use Rattle.dg_rules.specs.History.{gifts_in, position_after}
pub use Rattle.dg_rules.specs.Position.{ShowsPosition}
pub use Rattle.dg_lines.proofs.Printing.{legal_named}
pub use Rattle.dg_log.specs.declared.name.Name.{Ghosts}
pub use Rattle.dg_session.specs.Parties.{IsParty, IsPartyRefused, IsScriptOver, IsSessionsFault, script_bytes}
pub use Rattle.dg_session.specs.declared.played.PartyRefusal.TheVariants.{Log}
pub use Rattle.dg_system.specs.declared.shortage.Shortage.{Shortage}
pub use Rattle.dg_system.specs.declared.shortage.Shortage.TheVariants.{OutOfMemory, Spawn as NoThread}
pub use Rattle.dg_table.proofs.Complete.{all_there, none_missing}
pub use Rattle.dg_table.specs.declared.audit.Audit.{Audit}
pub use Rattle.dg_session.specs.Printed.{numbered_entries_text, seat_text, totals_text}
pub use Rattle.std.proofs.Common.{All, Err, IfErr, List, None, Ok, OnOk, Option, Result, Some, [], ap, append-nil, append_assoc, arith, codes, drop, false, flat_map, get_or, inl, inr, length, length-append, length-set, map, refl, rules, slice_get, subst, suc, sum, sym, take, take-append-drop, tests, true, zero, ℕ, ◌*◌, ◌++◌, ◌+◌, ◌-◌, ◌<◌, ◌∙◌, ◌∷◌, ◌≡◌, ◌≢◌, ◌≤◌, decimal, unwrap_or}
pub use Rattle.std.proofs.lemmas.List.{length-map, length-take-le, map-set, nil_from_length, take_all}
pub use Rattle.std.proofs.lemmas.List.Elements.{All-append, All-cons, All-head, All-more, All-nil, All-tail, All-take}
pub use Rattle.std.proofs.lemmas.List.Sums.{sum_by-cons}
pub use Rattle.std.proofs.lemmas.Option.{same_Some, slice_get-get_or, slice_get-map, slice_get_within, none-some}
pub use Rattle.std.specs.Io.KnownBytes.{Appends, Consumes, IsAtEnd}
pub use Rattle.std.specs.Option.{option_map}
pub use Rattle.std.specs.List.{enumerate_from, slice_index_or, slice_set, slice_index}
pub use Rattle.std.specs.Prelude.{⊤}
pub use Rattle.std.proofs.Math.Seq.{take-append_seam}
pub use Rattle.std.proofs.lemmas.Result.{IfErr-weaker, on_ok_weaker}
pub use Rattle.std.specs.Global.{Vec}
