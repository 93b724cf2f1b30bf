use Rattle.std.proofs.Common.{◌≡◌, ℕ, ◌*◌, ◌<◌, pos, length}
use Rattle.std.specs.List.{slice_index_or}
use Rattle.dg_abi.specs.Rows.{AnswersTest}
use Rattle.dg_abi.proofs.Kept.{SameFrom}
use Rattle.dg_abi.proofs.ranking.rank_test_rows.Given as goal

abbrev pub invariant-loop-row : goal.invariant-loop-row
invariant-loop-row l = record {
  told : length l.told ≡ length l.initial.told;
  losses : length l.losses ≡ length l.initial.losses;
  losses_left : SameFrom (pos 0) (l.row * l.graph.size) l.initial.losses l.losses;
  answered : (r : ℕ) → r < l.row → AnswersTest l.graph l.amounts l.k (r * l.graph.size)
      (slice_index_or l.told r (pos 0)) l.initial.losses l.losses;
}
