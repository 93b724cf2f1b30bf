use Rattle.dg_chips.proofs.Common.{if◌then◌else◌, ◌≡◌, ℕ, ◌<◌, ◌≤◌, length, slice_index, valence, in_set}
use Rattle.dg_chips.proofs.SetLending.{into_first}
use Rattle.dg_chips.proofs.set_firing.set_firing_sums.Given as goal

abbrev pub invariant-loop-v : goal.invariant-loop-v
invariant-loop-v l = record {
  got : (w : ℕ) → w < 16 → slice_index l.got w ≡ into_first l.graph (in_set l.set) w l.v;
  places : length l.lent ≡ 16;
  lent : (w : ℕ) → w < l.v → slice_index l.lent w ≡ (if in_set l.set w then valence l.graph w else 0);
  rest : (w : ℕ) → l.v ≤ w → slice_index l.lent w ≡ 0;
}
