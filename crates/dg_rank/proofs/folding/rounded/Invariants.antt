use Rattle.dg_rank.proofs.Common.{◌≡◌, ℕ, ◌<◌, pos, length, slice_index_or}
use Rattle.dg_rank.specs.Folding.{IsRounded}
use Rattle.dg_rank.proofs.folding.rounded.Given as goal

abbrev pub invariant-loop-t : goal.invariant-loop-t
invariant-loop-t l = record {
  places : length l.rounds ≡ 105;
  done : (t : ℕ) → t < l.t →
      IsRounded l.edges (slice_index_or l.row t (pos 0)) (slice_index_or l.rounds t (pos 0));
}
