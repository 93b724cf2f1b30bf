use Rattle.dg_burn.proofs.Common.{◌≡◌, ℕ, ◌≤◌, length, take, slice_index_or, count_unburnt, IsPartialBurning, list_amounts, burns, IsFire}
use Rattle.dg_burn.proofs.burning.burn_counted.Given as goal

abbrev pub invariant-burning : goal.invariant-burning
invariant-burning l = record {
  state : IsPartialBurning l.graph l.q (list_amounts l.held) (take l.count l.order) l.count (burns l.graph.size l.fire);
  fire : IsFire l.graph l.held l.fire;
  places : length l.order ≡ 16;
  rest : (i : ℕ) → l.count ≤ i → slice_index_or l.order i 0 ≡ 0;
}

abbrev pub decreases-burning : goal.decreases-burning
decreases-burning l = count_unburnt l.graph.size (burns l.graph.size l.fire)
