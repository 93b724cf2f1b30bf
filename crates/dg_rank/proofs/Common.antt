-- The names that the proofs of this crate cite, passed on from one place. Declares nothing.
pub use Rattle.dg_chips.proofs.VectorLaws.{filled-set}
pub use Rattle.dg_chips.specs.Vector.{Vector, at}
pub use Rattle.dg_graph.proofs.SetLaws.{in_set-none}
pub use Rattle.dg_graph.specs.Graph.{IsGraph}
unfoldable pub use Rattle.dg_graph.specs.Sets.{in_set}
pub use Rattle.dg_rank.specs.Boxes.{BoxWins, HoldsAt, IsBoxLoss, IsFirstLossFrom, IsFirstTrialIf, IsInBox, IsNotBefore, IsTrialFrom, IsLossFrom, TellsFirstIf, TrialsWinFrom, TrialsWinIf}
pub use Rattle.dg_rank.specs.Divisors.{HoldsTrial, amounts_of_trial}
pub use Rattle.dg_rank.specs.Ladders.{AnswersRankTest, AreTestAnswers, FailsAfter, MeetsTooMany, PassesBelow, TestsTellRank, TestsTellBoth}
pub use Rattle.dg_rank.specs.Limits.{IsPastLimits, HasTrials}
pub use Rattle.dg_rank.specs.Losses.{AllTrialsWin, IsFirstLossIn, WinsWithout}
pub use Rattle.dg_rank.specs.Pieces.{piece_start}
pub use Rattle.dg_rank.specs.Ranks.{FailsFirstAt, IsLesserSide, IsTestedRank, IsTestable, NeedsTooMany}
pub use Rattle.dg_rank.specs.Trials.{AnyTrial, AreTrialsCounted, IsTrialBefore, IsTrialNumbering, IsTrial}
pub use Rattle.dg_rank.specs.declared.counting.TheConstants.{MAX_TRIALS}
pub use Rattle.dg_rank.specs.declared.pieces.Search.{Search}
pub use Rattle.dg_rank.specs.declared.rank_fault.RankFault.{RankFault}
pub use Rattle.dg_rank.specs.declared.rank_fault.RankFault.TheVariants.{TooMany}
pub use Rattle.dg_reduce.specs.Effective.{IsInLinearSystem}
pub use Rattle.dg_theory.proofs.Absolute.{abs_within, within_abs}
pub use Rattle.dg_theory.proofs.Agreement.{agree-sym}
pub use Rattle.dg_theory.proofs.DualityLaws.{IsDual, dual_tests, high_rank, natural}
pub use Rattle.dg_theory.proofs.Equivalence.{equivalent-degree, equivalent-refl, equivalent-trans}
pub use Rattle.dg_theory.proofs.Giving.{degree-less, degree-only_at, degree-winnable, win_more}
pub use Rattle.dg_theory.proofs.LossLaws.{equivalent-loss, loss_bounds_rank}
pub use Rattle.dg_theory.proofs.Plays.{only_at-here, only_at-other}
pub use Rattle.dg_theory.proofs.Range.{sum_below-at_most, sum_below-one, sum_below-two}
pub use Rattle.dg_theory.proofs.RankLaws.{equivalent-rank, poor_rank, rank_zero, rich_rank}
pub use Rattle.dg_theory.proofs.RankNumbers.{not_rich, rank_down, rank_of_dual, rank_passes}
pub use Rattle.dg_theory.proofs.RankSums.{half_of_degree}
pub use Rattle.dg_theory.proofs.ReducedLaws.{effective_from, reduced_decides}
pub use Rattle.dg_theory.proofs.SumBounds.{sum_below-at_least}
pub use Rattle.dg_theory.proofs.SumLaws.{sum_below-add, sum_below-cong, sum_below-zero}
pub use Rattle.dg_theory.proofs.SumSwap.{sum_below-sub}
pub use Rattle.dg_theory.proofs.Winning.{equivalent-winnable}
pub use Rattle.dg_theory.specs.Firing.{DivisorsAgreeOn, Amounts, AreEquivalent, IsEffectiveOff, IsEffective, degree, only_at}
pub use Rattle.dg_theory.specs.Multigraph.{IsMultigraph, Multigraph, edge_count, edges_between, genus, valence}
pub use Rattle.dg_theory.specs.Play.{IsWinnable}
pub use Rattle.dg_theory.specs.Rank.{HasRankAtLeast, IsLexBefore, IsFirstLoss, IsRank, canonical, minus}
pub use Rattle.dg_theory.specs.Sums.{sum_below, nat_sum_below}
pub use Rattle.dg_verdict.specs.declared.rank_verdict.RankVerdict.{RankVerdict}
pub use Rattle.dg_verdict.specs.declared.rank_verdict.RankVerdict.TheVariants.{AtLeast, Below}
pub use Rattle.std.proofs.Common.{Bool, List, [], add-one, ap, arith, false, get_or-set_other, get_or-set_same, inl, inr, length, length-append, length-set, mul-le-mul_right, of_z, refl, replicate, rules, set, subst, suc, suc-mul, sym, take, to_z, true, w32, w64, zero, ℕ, ⊎_elim, ◌*◌, ◌++◌, ◌+◌, ◌-◌, ◌/◌, ◌<◌, ◌∙◌, ◌∷◌, ◌≡◌, ◌≢◌, ◌≤◌, ◌⊎◌}
pub use Rattle.std.proofs.Math.IntN.{nat_abs, negsuc, pos, ℤ, ◌-ℤ◌}
pub use Rattle.std.proofs.Math.Nat.{div-le_of_le-mul, div-mul-le_self, mul-div_cancel_left}
pub use Rattle.std.proofs.lemmas.Bool.{both_ways, cases_Bool, cases_eq, cases_lt, cond_above, cond_below}
pub use Rattle.std.proofs.lemmas.Int.{by_lt_z, clamps, ints}
pub use Rattle.std.proofs.lemmas.List.{get_or-replicate, get_or-take, get_or_append_left, get_or_past, get_or_push, length-take-le, take_all, take_more_set}
pub use Rattle.std.proofs.lemmas.List.Sums.{get_or-le-sum_by, sum_by-cons, sum_by_more}
pub use Rattle.std.proofs.lemmas.Nat.{le-div}
pub use Rattle.std.specs.Int.RustNames.{unsigned_abs}
pub use Rattle.std.specs.List.{slice_index_or, sum}
pub use Rattle.std.specs.Prelude.{min, if◌then◌else◌, Err, MatchBool, MatchOption, MatchResult, None, Ok, Option, Result, Some, is_some, not, slice_index, ⊤, ◌+ℤ◌, ◌<ℤ◌, ◌↔◌, ◌≤ℤ◌}
