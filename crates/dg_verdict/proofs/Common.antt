-- The names that the proofs of this crate cite, passed on from one place. Declares nothing.
pub use Rattle.dg_burn.proofs.Orders.{get-first, next-more}
pub use Rattle.dg_burn.proofs.Steps.{burning-lit, same-more, count_unburnt-fewer}
pub use Rattle.dg_burn.proofs.Told.{none_unreached}
pub use Rattle.dg_burn.specs.SoFar.{IsPartialBurning, count_unburnt}
pub use Rattle.dg_chips.specs.Vector.{Vector, at}
pub use Rattle.dg_reduce.proofs.Outcome.{script_near}
pub use Rattle.dg_graph.proofs.SetLaws.{in_set-none}
pub use Rattle.dg_graph.specs.Sets.{in_set}
pub use Rattle.dg_theory.specs.Sets.{IsSetWith}
pub use Rattle.dg_theory.proofs.Agreement.{agree-sym, fired-here, winnable-cong}
pub use Rattle.dg_theory.proofs.BurningLaws.{reduced_burnt}
pub use Rattle.dg_theory.proofs.BurningOrder.{may_burn}
pub use Rattle.dg_theory.proofs.BurntWhole.{burns_to_reduced}
pub use Rattle.dg_theory.proofs.Equivalence.{equivalent-fired, equivalent-sym, equivalent-trans}
pub use Rattle.dg_theory.proofs.FiringLaws.{fired-cong, fired-fired, gain-add}
pub use Rattle.dg_theory.proofs.ReducedLaws.{reduced_decides, reduced_once}
pub use Rattle.dg_theory.proofs.Scripts.{fired-shifted}
pub use Rattle.dg_theory.proofs.Winning.{equivalent-winnable}
pub use Rattle.dg_theory.specs.Burning.{IsBurningOrder, IsLeastBurningOrder, MayBurn, list_contains}
pub use Rattle.dg_theory.specs.Firing.{DivisorsAgreeOn, Amounts, AreEquivalent, FiresTo, IsEffectiveOff, fired, gain}
pub use Rattle.dg_theory.specs.Multigraph.{Multigraph}
pub use Rattle.dg_theory.specs.Reduced.{IsReduced}
pub use Rattle.dg_verdict.specs.Rebasing.{IsRebasable}
pub use Rattle.dg_verdict.specs.Right.{IsRightVerdict}
pub use Rattle.dg_verdict.specs.declared.verdict.Verdict.{Verdict}
pub use Rattle.std.proofs.Common.{Bool, List, [], ap, arith, false, length, refl, rules, subst, suc, sym, take, true, zero, ℕ, ◌*◌, ◌+◌, ◌<◌, ◌∙◌, ◌∷◌, ◌≡◌, ◌≤◌}
pub use Rattle.std.proofs.Math.IntN.{pos, ℤ, ◌+ℤ◌, ◌-ℤ◌}
pub use Rattle.std.proofs.lemmas.Int.{ints}
pub use Rattle.std.proofs.lemmas.List.{get_or-take, length-take, take-take, take_more}
pub use Rattle.std.proofs.lemmas.Option.{slice_get-get_or}
pub use Rattle.std.specs.Int.{w128}
pub use Rattle.std.specs.Int.RustNames.{unsigned_abs}
pub use Rattle.std.specs.List.{slice_index_or}
pub use Rattle.std.specs.Prelude.{MatchBool, Some, slice_get, ◌↔◌, ◌≤ℤ◌}
pub use lib.Signed.{le_z}
pub use mathlib.Core.Bool.{beq}
pub use mir.Val.{of_z, to_z}
