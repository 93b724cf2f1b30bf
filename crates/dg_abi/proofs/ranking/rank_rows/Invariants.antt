use Rattle.std.proofs.Common.{◌≡◌, ℕ, ◌*◌, ◌<◌, pos, length}
use Rattle.std.specs.List.{slice_index_or}
use Rattle.dg_abi.specs.Rows.{AnswersRank}
use Rattle.dg_abi.proofs.Kept.{SameFrom}
use Rattle.dg_abi.proofs.ranking.rank_rows.Given as goal

abbrev pub invariant-loop-row : goal.invariant-loop-row
invariant-loop-row l = record {
  told : length l.told ≡ length l.initial.told;
  ranks : length l.ranks ≡ length l.initial.ranks;
  duals : length l.duals ≡ length l.initial.duals;
  ranks_left : SameFrom (pos 0) l.row l.initial.ranks l.ranks;
  duals_left : SameFrom (pos 0) l.row l.initial.duals l.duals;
  answered : (r : ℕ) → r < l.row → AnswersRank l.graph l.amounts (r * l.graph.size) r
      (slice_index_or l.told r (pos 0)) l.initial.ranks l.ranks l.initial.duals l.duals;
}
