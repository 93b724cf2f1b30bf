use Rattle.std.proofs.Common.{◌≡◌, ℕ, ◌*◌, ◌<◌, pos, length}
use Rattle.std.specs.List.{slice_index_or}
use Rattle.dg_abi.specs.Rows.{AnswersJudge}
use Rattle.dg_abi.proofs.Kept.{SameFrom}
use Rattle.dg_abi.proofs.judging.judge_rows.Given as goal

abbrev pub invariant-loop-row : goal.invariant-loop-row
invariant-loop-row l = record {
  told : length l.told ≡ length l.initial.told;
  scripts : length l.scripts ≡ length l.initial.scripts;
  reduced : length l.reduced ≡ length l.initial.reduced;
  orders : length l.orders ≡ length l.initial.orders;
  scripts_left : SameFrom (pos 0) (l.row * l.graph.size) l.initial.scripts l.scripts;
  reduced_left : SameFrom (pos 0) (l.row * l.graph.size) l.initial.reduced l.reduced;
  orders_left : SameFrom 0 (l.row * l.graph.size) l.initial.orders l.orders;
  answered : (r : ℕ) → r < l.row → AnswersJudge l.graph l.q l.amounts (r * l.graph.size)
      (slice_index_or l.told r (pos 0)) l.initial.scripts l.scripts l.initial.reduced l.reduced l.initial.orders l.orders;
}
