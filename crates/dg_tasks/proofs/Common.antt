-- The names that the proofs of this crate cite, passed on from one place. Declares nothing.
pub use Rattle.dg_chips.specs.Starts.{IsStart, StartData}
pub use Rattle.dg_chips.specs.Vector.{IsInRange, at}
pub use Rattle.dg_rules.proofs.GraphLaws.{graphs_hold}
pub use Rattle.dg_rules.proofs.LegalLaws.{legal_part, right_here}
pub use Rattle.dg_rules.proofs.OneReply.{claim_once, gift_once, join_once, look_once, move_once}
pub use Rattle.dg_rules.proofs.ListLaws.{slice_get-seam}
pub use Rattle.dg_rules.proofs.StepLaw.{one_more_entry, vertices_stay}
pub use Rattle.dg_rules.specs.History.{change_count, gifts_in, position_after}
pub use Rattle.dg_rules.specs.Legal.{IsLegal}
pub use Rattle.dg_rules.specs.Position.{Position}
pub use Rattle.dg_rules.specs.Replies.{Replies, RepliesAt, RepliesToJudge, RepliesToRank}
pub use Rattle.dg_rules.specs.State.{LeadsTo, GameState}
pub use Rattle.dg_rules.specs.Step.{after_reply}
pub use Rattle.dg_rules.specs.declared.entry.Entry.{Entry}
pub use Rattle.dg_rules.specs.declared.entry.Reply.{Reply}
pub use Rattle.dg_rules.specs.declared.entry.Reply.TheVariants.{Rank, Stale, Verdict}
pub use Rattle.dg_rules.specs.declared.entry.Request.{Request}
pub use Rattle.dg_rules.specs.declared.game.TheConstants.{MAX_ENTRIES}
pub use Rattle.dg_rules.specs.declared.step.Command.{Command}
pub use Rattle.dg_rules.specs.declared.step.Command.TheVariants.{Call, Commit}
pub use Rattle.dg_rules.specs.declared.step.Step.{Step}
pub use Rattle.dg_graph.specs.Graph.{IsGraph}
pub use Rattle.dg_lines.proofs.Judging.{judged-named}
pub use Rattle.dg_lines.proofs.Printing.{history_more, legal_named}
pub use Rattle.dg_lines.proofs.Schedule.{AreRead, all_read, none_read, one_more, steps_seated}
pub use Rattle.dg_lines.specs.Cuts.{cons_to_first}
pub use Rattle.dg_lines.specs.Steps.{IsStepLine}
pub use Rattle.dg_lines.specs.Texts.{HasNames, entry_text, text_of}
pub use Rattle.dg_lines.specs.declared.lines.Lines.{Lines}
pub use Rattle.dg_rank.specs.Ranks.{RefusesBothRanks, IsTestedRank}
pub use Rattle.dg_game.specs.Rehearsal.{IsRehearsalAfter, PlaysStep, RefusesStep}
pub use Rattle.dg_game.specs.Schedule.{IsStepRequest, IsStepEntry, KeepsLookAt}
pub use Rattle.dg_game.specs.ScheduleFaults.{IsRehearsalFault}
pub use Rattle.dg_game.specs.declared.schedule.Rehearsal.{Rehearsal}
pub use Rattle.dg_game.specs.declared.schedule.RehearseFault.{RehearseFault}
pub use Rattle.dg_game.specs.declared.schedule.RehearseFault.TheVariants.{Seat}
pub use Rattle.dg_strategy.proofs.Greedily.{IsUnderWay, begun, legal_turn, settled_game, used_up, went_on}
pub use Rattle.dg_strategy.proofs.OneGame.{greedy_game_is_one}
pub use Rattle.dg_strategy.specs.Greedy.{IsGreedyTurn}
pub use Rattle.dg_tasks.specs.Games.{IsGreedyAnswer, turns_text}
pub use Rattle.dg_tasks.specs.OneText.{GreedyHasOneText, HistoryTextIsUnique, RehearsalsHaveOneText, requests_of}
pub use Rattle.dg_tasks.specs.RankTests.{IsRiemannRochAnswer, riemann_roch_text}
pub use Rattle.dg_tasks.specs.Refusals.{IsStepsFaultOn}
pub use Rattle.dg_tasks.specs.Rehearsals.{IsPlayedSoFar, IsRehearsalAnswer, StopsRehearsal}
pub use Rattle.dg_theory.proofs.RankNumbers.{riemann_roch}
pub use Rattle.dg_theory.specs.Rank.{canonical, minus}
pub use Rattle.std.proofs.Common.{Bool, List, None, Option, Some, [], ap, append-nil, append_assoc, arith, codes, cond, false, length, length-append, not, of_z, refl, rules, slice_get, subst, suc, sym, take, to_z, true, w64, zero, ℕ, ⊎_elim, ◌++◌, ◌+◌, ◌<◌, ◌==◌, ◌∙◌, ◌∷◌, ◌≡◌, ◌≤◌}
pub use Rattle.std.proofs.lemmas.Bool.{cases_lt}
pub use Rattle.std.proofs.lemmas.Int.{ints, to_z-of_z}
pub use Rattle.std.proofs.lemmas.Option.{slice_get_within}
pub use Rattle.std.specs.Int.RustNames.{FitsSigned}
pub use Rattle.std.specs.Option.{is_none}
pub use Rattle.std.specs.Prelude.{decimal}
