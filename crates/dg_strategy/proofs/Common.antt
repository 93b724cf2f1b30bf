-- The names that the proofs of this crate cite, passed on from one place. Declares nothing.
pub use Rattle.dg_chips.specs.Moves.{IsApplicableMove}
pub use Rattle.dg_chips.specs.Starts.{IsStart, StartData}
pub use Rattle.dg_chips.specs.Vector.{Vector, at}
pub use Rattle.dg_chips.specs.declared.moves.Move.{Move}
pub use Rattle.dg_chips.specs.declared.moves.Move.TheVariants.{Borrow}
pub use Rattle.dg_rules.proofs.GraphLaws.{graphs_hold}
pub use Rattle.dg_rules.proofs.HistoryLaws.{gifts_in-more}
pub use Rattle.dg_rules.proofs.LegalLaws.{legal_more, legal_none, legal_part, right_here}
pub use Rattle.dg_rules.proofs.ListLaws.{slice_get-append, slice_get-seam}
pub use Rattle.dg_rules.proofs.OneReply.{empty_playable, move_once, no_vertex_playable, script_playable}
pub use Rattle.dg_rules.proofs.StateLaws.{shown_once}
pub use Rattle.dg_rules.specs.History.{change_count, gifts_in, position_after}
pub use Rattle.dg_rules.specs.Legal.{IsLegal, LooksBack}
pub use Rattle.dg_rules.specs.MoveReplies.{RepliesToMove}
pub use Rattle.dg_rules.specs.Position.{Position}
pub use Rattle.dg_rules.specs.Replies.{Replies, RepliesAt, RepliesToClaim}
pub use Rattle.dg_rules.specs.State.{LeadsTo, GameState}
pub use Rattle.dg_rules.specs.declared.entry.Entry.{Entry}
pub use Rattle.dg_rules.specs.declared.entry.Refusal.TheVariants.{Empty, NoVertex, Range}
pub use Rattle.dg_rules.specs.declared.entry.Reply.{Reply}
pub use Rattle.dg_rules.specs.declared.entry.Reply.TheVariants.{Moved, NotWon, Refused, Won}
pub use Rattle.dg_rules.specs.declared.entry.Request.{Request}
pub use Rattle.dg_rules.specs.declared.entry.Request.TheVariants.{Claim}
pub use Rattle.dg_graph.specs.Graph.{IsGraph}
pub use Rattle.dg_log.specs.Tables.{TableData}
pub use Rattle.dg_strategy.specs.Choices.{IsGreedyMove, BorrowsInDebt, Choosing, IsLeastInDebt}
pub use Rattle.dg_strategy.specs.Greedy.{AreMoves, AreGreedy, EndsGame, EndsTurn, IsGreedyCall, IsGreedyGame, IsGreedyTurn}
pub use Rattle.dg_strategy.specs.GreedyLaws.{GreedyIsUnique, IsGreedyChoice, IsAloneAt, SettlerIsGreedy}
pub use Rattle.dg_strategy.specs.Plays.{AreNumberedMoves, Gains, IsClaimed, IsMovedOrPastRange, IsMoveRequest, IsPlayed, IsPlayedOut, IsSettlerTurn, IsStopped, IsStrategyTurn, IsTurnBy, Plays}
pub use Rattle.dg_strategy.specs.declared.playing.Ended.{Ended}
pub use Rattle.dg_strategy.specs.declared.playing.Ended.TheVariants.{Settled, Turns}
pub use Rattle.dg_table.proofs.Entries.{entries_enumerated, enumerate_from-more, own_alone}
pub use Rattle.dg_table.specs.Faults.{RefusesCall, KeepsAfterRefusal}
pub use Rattle.dg_table.specs.Seats.{AreOfSeats, Keeps, SeatView, entries_of}
pub use Rattle.dg_rules.specs.Requests.{choice_request}
pub use Rattle.dg_table.specs.declared.fault.Fault.{Fault}
pub use Rattle.dg_theory.specs.Firing.{IsEffective}
pub use Rattle.std.proofs.Common.{Bool, List, None, Option, Some, [], ap, append-nil, append_assoc, arith, false, inl, inr, is_some, length, length-append, map, not, refl, rules, subst, sym, take, true, ℕ, ⊎_elim, ◌++◌, ◌+◌, ◌-◌, ◌<◌, ◌∙◌, ◌∷◌, ◌≡◌, ◌≤◌, ◌⊎◌, Result, Ok, Err}
pub use Rattle.std.proofs.Math.IntN.{pos}
pub use Rattle.std.proofs.Math.Seq.{take-append_seam}
pub use Rattle.std.proofs.lemmas.Bool.{both_ways, cases_lt}
pub use Rattle.std.proofs.lemmas.Fn.{FoldsTo-push}
pub use Rattle.std.proofs.lemmas.Int.{ints}
pub use Rattle.std.proofs.lemmas.Option.{slice_get_within}
pub use Rattle.std.specs.List.{FoldsTo, enumerate_from}
pub use Rattle.std.specs.Prelude.{◌≤ℤ◌}
