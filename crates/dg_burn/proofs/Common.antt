-- The names that the proofs of this crate cite, passed on from one place. Declares nothing.
pub use Rattle.dg_burn.specs.Fires.{IsFire, AreCapped, IsNextBurnt, IsBurntOut, IsUnlit, burns, capped, list_amounts, heat}
pub use Rattle.dg_burn.specs.SoFar.{IsPartialBurning, count_unburnt}
pub use Rattle.dg_burn.specs.declared.fire.Fire.{Fire}
pub use Rattle.dg_chips.specs.Vector.{at}
pub use Rattle.dg_graph.proofs.SetLaws.{in_set-none, no_set}
pub use Rattle.dg_graph.proofs.Valences.{valence-few, valence-outside}
pub use Rattle.dg_graph.specs.Graph.{IsGraph}
pub use Rattle.dg_theory.specs.Sets.{IsSetWith, IsSetWithout, IsVertexSet}
unfoldable pub use Rattle.dg_graph.specs.Sets.{in_set}
pub use Rattle.dg_theory.proofs.BurningLaws.{burnt_reduced, reduced_burnt, rest-out, rest_fires, unburnt_by-below, unburnt_fires}
pub use Rattle.dg_theory.proofs.Counting.{member_or_none}
pub use Rattle.dg_theory.proofs.Debts.{into-le-valence}
pub use Rattle.dg_theory.proofs.TotalLaws.{nat_sum_below-cong, nat_sum_below-differ_at, nat_sum_below-term}
pub use Rattle.dg_theory.specs.Burning.{IsLeastBurningOrder, BurnsNext, IsBurningPrefix, IsGreatestLegal, MayBurn, list_contains, edges_into}
pub use Rattle.dg_theory.specs.BurningLaws.{unburnt_by}
pub use Rattle.dg_theory.specs.Firing.{Amounts, IsEffectiveOff}
pub use Rattle.dg_theory.specs.Multigraph.{IsMultigraph, Multigraph, edges_between, valence}
pub use Rattle.dg_theory.specs.Reduced.{IsReduced, edges_out}
pub use Rattle.dg_theory.specs.Sums.{nat_sum_below}
pub use Rattle.std.proofs.Common.{Bool, Fits, List, [], ap, ap₂, arith, bit_and, cond, false, get_or, get_or-set_other, inl, inr, length, length-append, length-set, ltb, map, min, nat_eq, not, refl, replicate, subst, suc, sym, take, true, w16, w8, zero, ℕ, ⊎_elim, ◌%◌, ◌&&◌, ◌*◌, ◌++◌, ◌+◌, ◌-◌, ◌<◌, ◌^◌, ◌∙◌, ◌∷◌, ◌≡◌, ◌≢◌, ◌≤◌, ◌⊎◌}
pub use Rattle.std.proofs.Math.IntN.{pos}
pub use Rattle.std.proofs.lemmas.Bool.{and_left, and_parts, and_right, both_ways, cases_Bool, cases_eq, cases_lt, eq-eqb, eqb-true, le-ltb, lt-ltb, ltb-true, ne_eqb, not-false, not_from_true, or_right, true_from_ne_false}
pub use Rattle.std.proofs.lemmas.Int.{ints}
pub use Rattle.std.proofs.lemmas.List.{get_or_past, length-map, take-append-le, take_all, take_more_set}
pub use Rattle.std.proofs.lemmas.List.Folds.{list_any-append}
pub use Rattle.std.proofs.lemmas.Nat.{one_shl}
pub use Rattle.std.proofs.lemmas.Nat.Bits.{bit_at-lt, bit_at-pow_other, bit_at-pow_same, bit_at-trailing_zeros, bit_at_and, bit_at_xor}
pub use Rattle.std.proofs.lemmas.Simd.{Each1-get_or, bit_mask_l, get_or-replicate, get_or-sel_l, get_or-zip2, length-sel_l, length-zip2, mask_l-lt, mask_l-mod, tops_compared}
pub use Rattle.std.specs.Int.{bit_at, trailing_zeros}
pub use Rattle.std.specs.Int.RustNames.{bit_xor}
pub use Rattle.std.specs.List.{slice_index_or}
pub use Rattle.std.specs.Prelude.{if◌then◌else◌, Some, nat_lt, negsuc, slice_get, slice_index, ℤ, ◌<ℤ◌, ◌==◌, ◌||◌, ◌↔◌, ◌≤ℤ◌}
pub use lib.Lanes.{Each1, mask_l, sel_l, top, zip2}
