-- The names that the proofs of this crate cite, passed on from one place. Declares nothing.
pub use Rattle.dg_graph.specs.Faults.{IsFirstHighValence, IsDisconnected, IsSize}
pub use Rattle.dg_graph.specs.Graph.{IsGraph, HasSixteenRows}
pub use Rattle.dg_graph.specs.Items.{IsEdgeItem, AreEdgeItems, AreItemsBefore, EdgeItem, item_edges}
pub use Rattle.dg_graph.specs.Joins.{IsJoinable}
pub use Rattle.dg_graph.specs.Search.{HasUnreachable, IsInOrNotAdjacent, IsPairwiseConnected, IsAdjacentTo, is_in}
pub use Rattle.dg_graph.specs.Sets.{IsLeastIn}
pub use Rattle.dg_theory.specs.Sets.{IsSetWith, IsSetWithout}
pub use Rattle.dg_theory.proofs.Chains.{IsConnectedTo-append, IsConnectedTo-cong, IsConnectedTo-reverse, IsConnectedTo-stays}
pub use Rattle.dg_theory.proofs.Debts.{into-le-valence, out-le-valence}
pub use Rattle.dg_theory.proofs.JoinLaws.{table_with_edge-row, joined_is_multigraph, size_stays, valence_grows}
pub use Rattle.dg_theory.proofs.TotalLaws.{nat_sum_below-cong, nat_sum_below-le, nat_sum_below-term}
pub use Rattle.dg_theory.specs.Burning.{edges_into}
pub use Rattle.dg_theory.specs.Joins.{endpoint_indicator, table_with_edge, row_with_edge}
pub use Rattle.dg_theory.specs.Multigraph.{IsConnectedTo, Multigraph, along, edges_between, here, valence}
pub use Rattle.dg_theory.specs.Reduced.{edges_out}
pub use Rattle.dg_theory.specs.Sums.{nat_sum_below}
pub use Rattle.std.proofs.Common.{Bool, List, MatchBool, Some, [], ap, ap₂, arith, bit_and, bit_or, cond, count_by, ext_get_or, false, get_or, inl, inr, length, length-set, min, nat_eq, not, refl, replicate, rules, set, slice_get, subst, suc, sum_by, sym, take, true, w16, zero, ℕ, ⊎_elim, ◌%◌, ◌&&◌, ◌*◌, ◌+◌, ◌-◌, ◌/◌, ◌<◌, ◌==◌, ◌^◌, ◌||◌, ◌∙◌, ◌∷◌, ◌≡◌, ◌≢◌, ◌≤◌}
pub use Rattle.std.proofs.Math.IntN.{pos, ◌+ℤ◌, ◌-ℤ◌}
pub use Rattle.std.proofs.lemmas.Bool.{cases_Bool, cases_eq, cases_lt, eqb-false, eqb-true, false≢true, le-ltb, lt-ltb}
pub use Rattle.std.proofs.lemmas.Bool.Decides.{nat_tests}
pub use Rattle.std.proofs.lemmas.Int.{ints}
pub use Rattle.std.proofs.lemmas.List.{get_or-set_other, get_or-set_same, get_or-replicate, get_or_past}
pub use Rattle.std.proofs.lemmas.List.FromFn.{fill_by_all, get_or-map-range_with_len}
pub use Rattle.std.proofs.lemmas.List.Sums.{sum_by-cons, sum_by-set, sum_by_more}
pub use Rattle.std.proofs.lemmas.Nat.{one_shl}
pub use Rattle.std.proofs.lemmas.Nat.Bits.{bit_at-lt, bit_at-pow_other, bit_at-pow_same, bit_at-trailing_zeros, bit_at-zero, bit_at_xor, bit_at_above, bit_at_and, bit_at_not, bit_at_ones, bit_at_ones_above, bit_at_set_other, bit_at_set_same, ones_shr, same_from_bits, shr_and_one}
pub use Rattle.std.proofs.lemmas.Option.{slice_get-get_or}
pub use Rattle.std.specs.Int.{bit_at, bit_not, trailing_zeros, w32}
pub use Rattle.std.specs.Int.RustNames.{bit_xor}
pub use Rattle.std.specs.List.{slice_index_or}
pub use Rattle.std.specs.Prelude.{if◌then◌else◌, nat_lt, slice_index}
pub use mir.Val.{of_z, to_z}
