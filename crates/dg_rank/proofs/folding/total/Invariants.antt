use Rattle.dg_rank.proofs.Common.{◌≡◌, ◌≤◌, ◌*◌, pos, sum_below, at}
use Rattle.dg_rank.proofs.folding.total.Given as goal

abbrev pub invariant-loop-v : goal.invariant-loop-v
invariant-loop-v l = record {
  sum : pos l.sum ≡ sum_below l.v (at l.left);
  few : l.sum ≤ l.v * 4294967295;
}
