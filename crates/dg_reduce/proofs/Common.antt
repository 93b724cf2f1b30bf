-- The names that the proofs of this crate cite, passed on from one place. Declares nothing.
pub use Rattle.dg_burn.proofs.Capped.{list_contains-first, same-order}
pub use Rattle.dg_burn.proofs.Told.{none_reduced, reduced_none, rest_is_free, unburnt_member}
pub use Rattle.dg_burn.specs.Fires.{AreCapped, list_amounts}
pub use Rattle.dg_chips.proofs.FlowLaws.{times_held}
pub use Rattle.dg_chips.specs.Vector.{IsWide, Vector, at}
pub use Rattle.dg_graph.proofs.SetLaws.{in_set-none}
pub use Rattle.dg_graph.proofs.Valences.{valence-few, valence-outside}
pub use Rattle.dg_graph.specs.Graph.{IsGraph}
pub use Rattle.dg_graph.specs.Sets.{in_set}
pub use Rattle.dg_reduce.specs.Burnings.{CoversOff, CertifiesBurning}
pub use Rattle.dg_reduce.specs.Certificates.{IsFullOrder}
pub use Rattle.dg_reduce.specs.Effective.{IsInLinearSystem}
pub use Rattle.dg_reduce.specs.Firings.{IsMaxFirings, LacksForFirings, LastsForFirings, SendsNothing, largest}
pub use Rattle.dg_reduce.specs.Reaching.{HasNearer, AreLevelsReached, spread_level}
pub use Rattle.dg_reduce.specs.Reductions.{IsUniqueReduction, IsReduction}
pub use Rattle.dg_reduce.specs.States.{IsCleared, IsClearedOff, IsTraceAfter, IsLargestDebt, IsFiringTrace}
pub use Rattle.dg_reduce.specs.declared.certificate.Burning.{Burning}
pub use Rattle.dg_reduce.specs.declared.reduced.Reduced.{Reduced}
pub use Rattle.dg_reduce.specs.declared.walk.FiringTrace.{FiringTrace}
pub use Rattle.dg_theory.proofs.Absolute.{abs-add, abs_within, within_abs}
pub use Rattle.dg_theory.proofs.Agreement.{agree-trans, reduced-cong}
pub use Rattle.dg_theory.proofs.Bounds.{script_bound}
pub use Rattle.dg_theory.proofs.BurningOrder.{q_burns}
pub use Rattle.dg_theory.proofs.Climbs.{IsConnectedTo-leaves, Leaves}
pub use Rattle.dg_theory.proofs.ConstantLaws.{same_by_constant}
pub use Rattle.dg_theory.proofs.Debts.{fired_nearer, into-le-valence, nearer, out-le-valence}
pub use Rattle.dg_theory.proofs.Distances.{not_q}
pub use Rattle.dg_theory.proofs.Equivalence.{equivalent-fired, equivalent-refl, equivalent-sym, equivalent-trans}
pub use Rattle.dg_theory.proofs.Few.{IsGradual, gradual-few}
pub use Rattle.dg_theory.proofs.FiringLaws.{fired-cong, fired-constant, fired-fired}
pub use Rattle.dg_theory.proofs.Multiples.{gain-all_inside, gain-all_outside, multiple-off, multiple-once, multiple-within}
pub use Rattle.dg_theory.proofs.Potential.{levels_are_potential, weights}
pub use Rattle.dg_theory.proofs.Products.{mulz-add, one-mul}
pub use Rattle.dg_theory.proofs.Range.{IsLed, clear_all, clear_stays, clear_step, led-cong, led_limit, led_start, led_step, level_limit, level_paid, limit_last, limit_step, script_between}
pub use Rattle.dg_theory.proofs.Reach.{distance_from, distance_from-is}
pub use Rattle.dg_theory.proofs.ReducedLaws.{reduced_decides, reduced_once}
pub use Rattle.dg_theory.proofs.Scripts.{fired-shifted}
pub use Rattle.dg_theory.proofs.SetFiring.{fired-inside, gain-inside, gain-outside}
pub use Rattle.dg_theory.proofs.SumBounds.{mul-grows, mul-mono}
pub use Rattle.dg_theory.proofs.TotalLaws.{nat_sum_below-term}
pub use Rattle.dg_theory.proofs.Weights.{weight_falls_by_firings, weight_falls_by_set, weight_of, weight_of-cong}
pub use Rattle.dg_theory.specs.Burning.{IsLeastBurningOrder, BurnsNext, IsLegalSetFiring, IsGreatestLegal, MayBurn, list_contains, edges_into}
pub use Rattle.dg_theory.specs.Distances.{IsDistance}
pub use Rattle.dg_theory.specs.Firing.{DivisorsAgreeOn, Amounts, AreEquivalent, FiresTo, IsEffectiveOff, fired, gain, indicator, multiple}
pub use Rattle.dg_theory.specs.Multigraph.{IsMultigraph, Multigraph, edges_between, valence}
pub use Rattle.dg_theory.specs.Play.{IsWinnable}
pub use Rattle.dg_theory.specs.Reduced.{IsReduced, edges_out}
pub use Rattle.dg_theory.specs.Sums.{nat_sum_below}
pub use Rattle.std.proofs.Common.{Bool, List, MatchBool, [], ap, ap₂, arith, bit_and, cond, eqb, false, get_or-set_other, get_or-set_same, inl, inr, length, length-set, map, min, nat_eq, not, refl, replicate, rules, set, slice_index, slice_set, subst, suc, sym, take, true, w8, zero, ℕ, ⊎_elim, ◌%◌, ◌*◌, ◌++◌, ◌+◌, ◌-◌, ◌/◌, ◌<◌, ◌==◌, ◌^◌, ◌∙◌, ◌∷◌, ◌≡◌, ◌≢◌, ◌≤◌, ◌⊎◌}
pub use Rattle.std.proofs.Math.IntN.{*ℤ_comm, negsuc, pos, ℤ, ◌*ℤ◌, ◌+ℤ◌, ◌-ℤ◌}
pub use Rattle.std.proofs.Math.Nat.{one-le-pow, pow-le-pow_right}
pub use Rattle.std.proofs.lemmas.Bool.{agree_below_at, both_ways, cases_Bool, cases_eq, cases_lt, eq-eqb, eqb-true, ne_eqb}
pub use Rattle.std.proofs.lemmas.Bool.Decides.{eqb_tells, nat_tests}
pub use Rattle.std.proofs.lemmas.Int.{ints}
pub use Rattle.std.proofs.lemmas.List.{get_or-append_right, get_or-replicate, get_or_append_left, length-replicate}
pub use Rattle.std.proofs.lemmas.Nat.{mul-le, pow_pos}
pub use Rattle.std.proofs.lemmas.Nat.Bits.{and_pow, bit_at-lt, bit_at_and, bit_at_cat_high, bit_at_ones}
pub use Rattle.std.proofs.lemmas.Simd.{get_or-sel_l, get_or-zip2, tops_compared}
pub use Rattle.std.specs.Int.{bit_at, w128}
pub use Rattle.std.specs.Int.RustNames.{unsigned_abs}
pub use Rattle.std.specs.List.{slice_index_or}
pub use Rattle.std.specs.Prelude.{if◌then◌else◌, nat_lt, ◌<ℤ◌, ◌↔◌, ◌≤ℤ◌}
pub use lib.Lanes.{sel_l, top, zip2}
pub use mir.Val.{of_z, to_z}
