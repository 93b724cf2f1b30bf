use Rattle.dg_rank.proofs.Common.{◌≡◌, ℕ, ◌<◌, ◌≤◌, pos, ◌-ℤ◌, length, slice_index, at}
use Rattle.std.proofs.Common.{min}
use Rattle.dg_rank.specs.Folding.{worth}
use Rattle.dg_rank.proofs.folding.unfolded_rows.Given as goal

abbrev pub invariant-loop-v : goal.invariant-loop-v
invariant-loop-v l = record {
  places : length l.rows ≡ 16;
  done : (v t : ℕ) → v < l.v → t ≤ l.dollars →
      worth l.rows v t ≡ at l.left v -ℤ pos (min t (slice_index l.room v));
}
