use Rattle.dg_rank.proofs.Common.{◌≡◌, ℕ, ◌<◌, slice_index}
use Rattle.dg_rank.proofs.boxes.lacking_vertex.Given as goal

abbrev pub invariant-loop-v : goal.invariant-loop-v
invariant-loop-v l = record { none : (u : ℕ) → u < l.v → slice_index l.lacks u ≡ 0 }
