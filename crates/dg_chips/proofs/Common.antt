-- The names that the proofs of this crate cite, passed on from one place. Declares nothing.
pub use Rattle.dg_chips.specs.Moves.{IsAfterMove}
pub use Rattle.dg_chips.specs.Divisors.{IsChipFault}
pub use Rattle.dg_chips.specs.Vector.{GainsFitI32, HoldsNumbers, IsInRange, IsOutOfRange, IsVector, Vector, at}
pub use Rattle.dg_chips.specs.declared.divisor.ChipFault.{ChipFault}
pub use Rattle.dg_chips.specs.declared.divisor.ChipFault.TheVariants.{Length, Range}
pub use Rattle.dg_graph.proofs.Valences.{valence-few, valence-outside}
pub use Rattle.dg_graph.specs.Graph.{IsGraph}
pub use Rattle.dg_graph.specs.Sets.{in_set}
pub use Rattle.dg_theory.specs.Sets.{IsVertexSet}
pub use Rattle.dg_theory.proofs.Absolute.{abs-add, abs_within, within_abs}
pub use Rattle.dg_theory.proofs.Debts.{into-le-valence}
pub use Rattle.dg_theory.proofs.Multiples.{gain-all_inside, gain-all_outside}
pub use Rattle.dg_theory.proofs.Plays.{only_at-here, only_at-other}
pub use Rattle.dg_theory.proofs.Products.{mulz-sub}
pub use Rattle.dg_theory.proofs.SetFiring.{gain-outside}
pub use Rattle.dg_theory.proofs.SumLaws.{sum_below-cong, sum_below-differ_at, sum_below-more, sum_below-zero}
pub use Rattle.dg_theory.proofs.SumSwap.{sum_below-scale, sum_below-sub}
pub use Rattle.dg_theory.proofs.SumTotals.{sum_below-total}
pub use Rattle.dg_theory.proofs.TotalLaws.{nat_sum_below-term}
pub use Rattle.dg_theory.specs.Burning.{edges_into}
pub use Rattle.dg_theory.specs.Firing.{Amounts, fired, gain, indicator, multiple, only_at}
pub use Rattle.dg_theory.specs.Multigraph.{IsMultigraph, Multigraph, edges_between, valence}
pub use Rattle.dg_theory.specs.Rank.{canonical}
pub use Rattle.dg_theory.specs.Reduced.{edges_out}
pub use Rattle.dg_theory.specs.Sums.{sum_below, nat_sum_below}
pub use Rattle.std.proofs.Common.{Bool, FitsSigned, List, MatchBool, add-one, ap, arith, below_more, ext_get_or, false, get_or-set_other, get_or-set_same, inl, inr, length, length-set, mul-one, refl, slice_set, subst, suc, sym, take, true, w32, w64, zero, ℕ, ⊎_elim, ◌%◌, ◌&&◌, ◌*◌, ◌+◌, ◌-◌, ◌<◌, ◌^◌, ◌∙◌, ◌≡◌, ◌≢◌, ◌≤◌}
pub use Rattle.std.proofs.Math.IntN.{*ℤ-zero, *ℤ_comm, +ℤ_idr, pos, zero-*ℤ, ℤ, ◌*ℤ◌, ◌+ℤ◌, ◌-ℤ◌}
pub use Rattle.std.proofs.Math.Nat.{mul-le-mul}
pub use Rattle.std.proofs.lemmas.Bool.{cases_Bool, cases_eq, cases_lt, leb-false, leb-true}
pub use Rattle.std.proofs.lemmas.Int.{ints, to_z-of_z, unsigned_abs-mul}
pub use Rattle.std.proofs.lemmas.List.{get_or-replicate, get_or-take, get_or_default, get_or_past, length-replicate, length-take}
pub use Rattle.std.proofs.lemmas.Simd.{get_or-zip2}
pub use Rattle.std.specs.Int.{w128}
pub use Rattle.std.specs.Int.RustNames.{unsigned_abs}
pub use Rattle.std.specs.List.{slice_index_or}
pub use Rattle.std.specs.Prelude.{if◌then◌else◌, nat_le, nat_lt, replicate, slice_index, ◌≤ℤ◌}
pub use lib.Lanes.{zip2}
pub use mir.Val.{bool_byte, of_z, to_z}
