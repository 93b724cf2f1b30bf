use Rattle.dg_graph.proofs.Common.{◌≡◌, ℕ, ◌<◌, length, valence}
use Rattle.std.proofs.Common.{slice_index}
use Rattle.dg_graph.proofs.table.valences_of.Given as goal

abbrev pub invariant-loop-v : goal.invariant-loop-v
invariant-loop-v l = record {
  places : length l.valences ≡ 16;
  same : (w : ℕ) → w < l.v → slice_index l.valences w ≡ valence (record { size = l.size; table = l.table }) w;
}
