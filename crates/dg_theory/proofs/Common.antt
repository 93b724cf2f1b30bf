-- The names that the proofs of this crate cite, passed on from one place. Declares nothing.
pub use Rattle.dg_theory.specs.Burning.{IsLeastBurningOrder, IsLegalSetFiring, MayBurn, list_contains, edges_into}
pub use Rattle.dg_theory.specs.BurningLaws.{OrderShowsReduced, ReducedIffBurnt, GreatestIsUnique, UnburntIsGreatest, unburnt_by}
pub use Rattle.dg_theory.specs.Distances.{IsDistance}
pub use Rattle.dg_theory.specs.DualityLaws.{Clifford, DualTests, CliffordOrRiemannRoch, RankAboveGenus, LossOfDual, RankExists, RankOfDual, RankOfSum, RankIsUnique, RiemannRoch}
pub use Rattle.dg_theory.specs.EquivalenceLaws.{EquivalenceIsReflexive, EquivalenceIsSymmetric, EquivalenceIsTransitive, EquivalentByPlays, EquivalentDegrees}
pub use Rattle.dg_theory.specs.ExistenceLaws.{ReducedExists, WinnableFromGenus}
pub use Rattle.dg_theory.specs.Firing.{DivisorsAgreeOn, Amounts, AreEquivalent, FiresTo, IsEffectiveOff, IsEffective, degree, fired, gain, indicator, multiple, only_at}
pub use Rattle.dg_theory.specs.FiringLaws.{ConstantsDoNothing, FiringAddsUp, FiringKeepsDegree, DifferByConstant}
pub use Rattle.dg_theory.specs.JoinLaws.{JoinAddsEdge, JoinedIsMultigraph, EdgeKeepsSize, ValenceGrows}
pub use Rattle.dg_theory.specs.Joins.{endpoint_indicator, table_with_edge, pair_indicator, row_with_edge}
pub use Rattle.dg_theory.specs.Multigraph.{IsMultigraph, IsConnectedTo, Multigraph, along, edge_count, edges_between, genus, here, valence}
pub use Rattle.dg_theory.specs.Orders.{AreApart, BurnsAtCost, LossIffBurns, earlier, excess, order_divisor}
pub use Rattle.dg_theory.specs.Play.{IsWinnable, Play, lend, played, script_of_play}
pub use Rattle.dg_theory.specs.Rank.{HasRankAtLeast, IsLexBefore, IsFirstLoss, IsRank, canonical, minus}
pub use Rattle.dg_theory.specs.RankLaws.{EquivalentLoss, EquivalentRank, LossBoundsRank, FirstLossIsUnique, RankAtMostDegree, RankIsMonotone, RankZeroIffWinnable, RankFromDegree}
pub use Rattle.dg_theory.specs.Reduced.{IsReduced, edges_out}
pub use Rattle.dg_theory.specs.ReducedLaws.{ReducedBelowGenus, ReducedDecides, ReducedIsUnique}
pub use Rattle.dg_theory.specs.Sums.{sum_below, nat_sum_below}
pub use Rattle.dg_theory.specs.WinningLaws.{EquivalentWinnable, WinnableByClass, WinnableByScript}
pub use Rattle.std.proofs.Common.{Bool, List, [], add-mul, add-one, ap, arith, false, inl, inr, ltb, mul-one, mul-zero, mul_assoc, mul_comm, not, pow-suc, refl, subst, suc, suc-mul, sym, take, true, zero, zero-mul, ℕ, ⊎_elim, ◌&&◌, ◌*◌, ◌+◌, ◌-◌, ◌<◌, ◌==◌, ◌^◌, ◌∙◌, ◌∷◌, ◌≡◌, ◌≢◌, ◌≤◌, ◌⊎◌}
pub use Rattle.std.proofs.Math.IntN.{*ℤ-negsuc, *ℤ-one, *ℤ-zero, *ℤ_comm, neg_ℤ, negsuc, pos, pred_ℤ-*ℤ, suc_ℤ-*ℤ, zero-*ℤ, ℤ, ◌*ℤ◌, ◌+ℤ◌, ◌-ℤ◌}
pub use Rattle.std.proofs.Math.Nat.{one-le-pow}
pub use Rattle.std.proofs.lemmas.Bool.{and_from, and_parts, and_right, both_ways, cases_Bool, cases_eq, cases_lt, eq-eqb, eqb-true, false_from_ne_true, le-ltb, lt-ltb, ltb-true, ne_eqb, not-false, not-true, not_from_false, not_from_true, or_cases, or_from, or_left, or_right, true_from_ne_false}
pub use Rattle.std.proofs.lemmas.Bool.Decides.{nat_tests}
pub use Rattle.std.proofs.lemmas.Int.{by_lt_z, ints}
pub use Rattle.std.proofs.lemmas.Nat.{mul-le}
pub use Rattle.std.specs.Int.RustNames.{unsigned_abs}
pub use Rattle.std.specs.Int.Signed.{le_z}
pub use Rattle.std.specs.List.{list_any, slice_index_or}
pub use Rattle.std.specs.Prelude.{if◌then◌else◌, Some, nat_lt, slice_get, slice_index, ◌<ℤ◌, ◌||◌, ◌↔◌, ◌≤ℤ◌}
pub use borrow.Author.Differences.{down, up}
