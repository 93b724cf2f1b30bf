-- The names that the proofs of this crate cite, passed on from one place. Declares nothing.
pub use Rattle.dg_chips.specs.Starts.{StartData}
pub use Rattle.dg_chips.specs.Vector.{Vector}
pub use Rattle.dg_chips.specs.declared.moves.Move.{Move}
pub use Rattle.dg_rules.proofs.LegalLaws.{legal_looks, legal_none}
pub use Rattle.dg_rules.proofs.ListLaws.{more_holds, slice_get-append}
pub use Rattle.dg_rules.proofs.StateLaws.{right_in}
pub use Rattle.dg_rules.proofs.StepLaw.{vertices_stay}
pub use Rattle.dg_rules.specs.History.{gifts_in, position_after}
pub use Rattle.dg_rules.specs.Legal.{IsLegal}
pub use Rattle.dg_rules.specs.Look.{IsLookAt, KeepsFinding, request_for_finding, request_for_question}
pub use Rattle.dg_rules.specs.Position.{ShowsPosition}
pub use Rattle.dg_rules.specs.Replies.{Replies}
pub use Rattle.dg_rules.specs.State.{LeadsTo, GameState}
pub use Rattle.dg_rules.specs.declared.entry.Entry.{Entry}
pub use Rattle.dg_rules.specs.declared.entry.Reply.{Reply}
pub use Rattle.dg_rules.specs.declared.entry.Reply.TheVariants.{Looked, Rank as RankReply, Stale, Verdict}
pub use Rattle.dg_rules.specs.declared.entry.Request.{Request}
pub use Rattle.dg_rules.specs.declared.entry.Request.TheVariants.{Look}
pub use Rattle.dg_rules.specs.declared.entry.TheConstants.{MAX_SEATS}
pub use Rattle.dg_rules.specs.declared.finding.Finding.{Finding}
pub use Rattle.dg_rules.specs.declared.finding.Finding.TheVariants.{Judged, Ranked}
pub use Rattle.dg_rules.specs.declared.finding.Question.{Question}
pub use Rattle.dg_rules.specs.declared.look.LookData.{LookData}
pub use Rattle.dg_log.specs.Numbered.{IsPrefixOf, IsLongerPrefix, StandIn}
pub use Rattle.dg_log.specs.Tables.{TableData}
pub use Rattle.dg_log.specs.Written.{Written}
pub use Rattle.dg_log.specs.declared.name.Name.{Ghosts}
pub use Rattle.dg_table.specs.Answered.{IsAnsweredAfter, IsEnteredAfter, entering}
pub use Rattle.dg_table.specs.Closing.{AttestsAll, HoldsAllSeats, AttestedIsUnique, AreAuditTotals, HasSeat, HaveMet, IsCloseRefused, AreAllSeats}
pub use Rattle.dg_table.specs.Faults.{RefusesSettling, RefusesStep}
pub use Rattle.dg_table.specs.Histories.{IsHistoryOf}
pub use Rattle.dg_table.specs.Lock.{AreSeatCounts, IsKeptLook, IsReady, IsRollAfter, IsSeatState, IsTallyShown, IsTallySigned, IsUnderLock, tally_of}
pub use Rattle.dg_table.specs.Looks.{IsSizedLook, IsLastLook, IsLookOf, KeepsLastLook, asks_for_look, is_look, last_look}
pub use Rattle.dg_table.specs.Opened.{AreFresh}
pub use Rattle.dg_table.specs.SeatLaws.{SeatEntriesStand, SeatStartsEmpty, AloneHasAll, OtherSeatsEntry, OwnSeatsEntry}
pub use Rattle.dg_table.specs.Seats.{AreOfSeats, HoldsKnown, IsAdmissible, Attests, HasMet, SeatView, entries_of}
pub use Rattle.dg_table.specs.Settled.{IsSettledReply, IsNotStaleAfter, IsSettledAfter, IsStaleAfter}
pub use Rattle.dg_table.specs.Turns.{IsAskedToEnter, asking}
pub use Rattle.dg_table.specs.declared.audit.Audit.{Audit}
pub use Rattle.dg_table.specs.declared.fault.Fault.{Fault}
pub use Rattle.dg_table.specs.declared.fault.Fault.TheVariants.{Full, Log, OutOfMemory}
pub use Rattle.dg_theory.specs.Multigraph.{Multigraph}
pub use Rattle.std.proofs.Common.{Bool, List, None, Option, Some, [], ap, append_assoc, arith, cond, drop, eq-eqb, false, get_or, inl, inr, length, length-append, map, refl, rules, set, slice_get, subst, suc, sum, sym, take, true, zero, ℕ, ◌++◌, ◌+◌, ◌-◌, ◌<◌, ◌==◌, ◌↔◌, ◌∙◌, ◌∷◌, ◌≡◌, ◌≢◌, ◌≤◌}
pub use Rattle.std.proofs.Math.Seq.{take-append_seam}
pub use Rattle.std.proofs.lemmas.Bool.{cases_eq, cases_lt, ne_eqb}
pub use Rattle.std.proofs.lemmas.List.{append-nil, get_or-replicate, get_or-set_other, get_or-set_same, get_or_past, length-replicate, length-set, length_push, nil_from_length, take_all, take_more}
pub use Rattle.std.proofs.lemmas.List.Elements.{filter-append}
pub use Rattle.std.proofs.lemmas.List.Sums.{sum_by-cons}
pub use Rattle.std.proofs.lemmas.Option.{get_or_from_slice_get, same_Some, slice_get_read, slice_get_within}
pub use Rattle.std.specs.Bool.{⊤}
pub use Rattle.std.specs.Borrow.{Bor}
pub use Rattle.std.specs.Fn.{Mut}
pub use Rattle.std.specs.List.{enumerate_from, filter, last_or, slice_set}
pub use Rattle.std.specs.Vec.{vec_capacity}
