-- The names that the proofs of this crate cite, passed on from one place. Declares nothing.
pub use Rattle.dg_chips.proofs.Applying.{moved_once}
pub use Rattle.dg_chips.specs.Moves.{IsAfterMove, HasOtherSize, FiresEmptySet, IsApplicableMove, NamesNoVertex, move_script}
pub use Rattle.dg_chips.specs.Starts.{StartData}
pub use Rattle.dg_chips.proofs.VectorLaws.{not_past, one_vector}
pub use Rattle.dg_chips.specs.Vector.{IsDivisorVector, IsOutOfRange, Vector, at}
pub use Rattle.dg_rules.specs.GiftReplies.{IsAcceptedGift, RefusesGift, RepliesToGift}
pub use Rattle.dg_rules.specs.History.{position_after_change, after_change, change_count, gifts_in, is_change, accepted_script, scripts_played, scripts_since}
pub use Rattle.dg_rules.specs.JoinReplies.{IsAcceptedJoin, RefusesJoin, RepliesToJoin}
pub use Rattle.dg_rules.specs.Legal.{IsLegal, IsSeatNumber, LooksBack}
pub use Rattle.dg_rules.specs.LegalLaws.{LegalGraphsHold, IsSizedReply, LegalIsSized, LegalLooksShow}
pub use Rattle.dg_rules.specs.Look.{IsLookAt, request_for_finding, request_for_question}
pub use Rattle.dg_rules.specs.MoveReplies.{RefusesMove, RepliesToMove}
pub use Rattle.dg_rules.specs.Position.{Position, ShowsPosition, fired_position, with_join, start_position, with_gift}
pub use Rattle.dg_rules.specs.Replies.{Replies, RepliesAt, RepliesToClaim, RepliesToJudge, RepliesToLook, RepliesToRank}
pub use Rattle.dg_rules.specs.Requests.{call_request}
pub use Rattle.dg_rules.specs.State.{IsNextState, IsRightReply, IsState, LeadsTo, GameState, amounts_after, gifts_after, graph_after, position_of}
pub use Rattle.dg_rules.specs.Step.{EmptyHistoryPosition, OneMoreEntry, PositionSinceChange, PlayedSinceChange, PlayedSinceStart, VerticesStay, after_reply}
pub use Rattle.dg_rules.specs.declared.entry.Entry.{Entry}
pub use Rattle.dg_rules.specs.declared.entry.Plain.{Plain}
pub use Rattle.dg_rules.specs.declared.entry.Refusal.{Refusal}
pub use Rattle.dg_rules.specs.declared.entry.Reply.{Reply}
pub use Rattle.dg_rules.specs.declared.entry.Reply.TheVariants.{Given, Joined, Looked, Moved, NotWon, Refused, Stale, Verdict, Won}
pub use Rattle.dg_rules.specs.declared.entry.Request.{Request}
pub use Rattle.dg_rules.specs.declared.entry.Request.TheVariants.{Claim, Gift, Join, Judge, Look, Move}
pub use Rattle.dg_rules.specs.declared.finding.Finding.{Finding}
pub use Rattle.dg_rules.specs.declared.finding.Finding.TheVariants.{Judged, Ranked}
pub use Rattle.dg_rules.specs.declared.finding.Question.{Question}
pub use Rattle.dg_rules.specs.declared.look.LookData.{LookData}
pub use Rattle.dg_graph.proofs.Joined.{with_edge-graph}
pub use Rattle.dg_graph.proofs.SetLaws.{in_set-none}
pub use Rattle.dg_graph.specs.Graph.{IsGraph}
pub use Rattle.dg_graph.specs.Sets.{in_set}
pub use Rattle.dg_theory.proofs.Agreement.{fired-here}
pub use Rattle.dg_theory.proofs.Equivalence.{equivalent-refl}
pub use Rattle.dg_theory.proofs.FiringLaws.{fired-constant, fired-fired}
pub use Rattle.dg_theory.proofs.JoinLaws.{size_stays}
pub use Rattle.dg_theory.proofs.LossLaws.{equivalent-loss}
pub use Rattle.dg_theory.proofs.RankLaws.{equivalent-rank}
pub use Rattle.dg_theory.specs.Firing.{DivisorsAgreeOn, Amounts, AreEquivalent, FiresTo, fired}
pub use Rattle.dg_theory.specs.Multigraph.{Multigraph}
pub use Rattle.dg_verdict.proofs.Agreement.{right-cong}
pub use Rattle.dg_verdict.proofs.Between.{between_leads}
pub use Rattle.dg_verdict.specs.RankTests.{IsRightRank}
pub use Rattle.dg_verdict.specs.Rebasing.{IsRebasable}
pub use Rattle.dg_verdict.specs.Right.{IsRightVerdict}
pub use Rattle.dg_verdict.specs.declared.rank_verdict.RankVerdict.{RankVerdict}
pub use Rattle.dg_verdict.specs.declared.rank_verdict.RankVerdict.TheVariants.{AtLeast, Below}
pub use Rattle.std.proofs.Common.{Bool, List, Some, [], ap, append-nil, append_assoc, arith, drop, false, inl, inr, length, length-append, refl, reverse, slice_get, subst, suc, sym, take, true, zero, ℕ, ◌++◌, ◌+◌, ◌<◌, ◌∙◌, ◌∷◌, ◌≡◌, ◌≢◌, ◌≤◌, ◌⊎◌}
pub use Rattle.std.proofs.Math.IntN.{pos, ℤ, ◌+ℤ◌}
pub use Rattle.std.proofs.Math.Seq.{take-append_seam}
pub use Rattle.std.proofs.lemmas.Bool.{and_parts, cases_lt, false≢true}
pub use Rattle.std.proofs.lemmas.Bool.Decides.{Decides-int_eq}
pub use Rattle.std.proofs.lemmas.Int.{ints}
pub use Rattle.std.proofs.lemmas.List.{length-take, reverse-append, take-append-drop, take-append-le, take-take}
pub use Rattle.std.proofs.lemmas.Option.{slice_get_within}
pub use Rattle.std.proofs.lemmas.Slice.Eq.{slice_eq-Decides}
pub use Rattle.std.specs.Bool.{OnTrue}
pub use Rattle.std.specs.List.{slice_index_or}
pub use Rattle.std.specs.Prelude.{cond}
