use Rattle.dg_rank.proofs.Common.{◌≡◌, ℕ, ◌<◌, pos, ◌-ℤ◌, length, slice_index_or}
use Rattle.std.proofs.Common.{min}
use Rattle.dg_rank.proofs.folding.unfolded_row.Given as goal

abbrev pub invariant-loop-t : goal.invariant-loop-t
invariant-loop-t l = record {
  places : length l.row ≡ 105;
  done : (t : ℕ) → t < l.t → slice_index_or l.row t (pos 0) ≡ l.amount -ℤ pos (min t l.room);
}
