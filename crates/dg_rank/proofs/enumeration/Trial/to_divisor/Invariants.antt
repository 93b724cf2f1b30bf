use Rattle.dg_rank.proofs.Common.{◌≡◌, ℕ, ◌<◌, length, slice_index_or, pos}
use Rattle.std.proofs.Common.{slice_index}
use Rattle.dg_rank.proofs.enumeration.Trial.to_divisor.Given as goal

abbrev pub invariant-loop-v : goal.invariant-loop-v
invariant-loop-v l = record {
  size : length l.amounts ≡ 16;
  same : (u : ℕ) → u < l.v → slice_index_or l.amounts u (pos 0) ≡ pos (slice_index l.self u);
}
