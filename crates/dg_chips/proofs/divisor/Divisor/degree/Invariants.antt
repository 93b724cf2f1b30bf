use Rattle.dg_chips.proofs.Common.{◌≡◌, ◌≤◌, ◌*◌, unsigned_abs, sum_below, at}
use Rattle.dg_chips.proofs.divisor.Divisor.degree.Given as goal

abbrev pub invariant-loop-v : goal.invariant-loop-v
invariant-loop-v l = record {
  sum : l.sum ≡ sum_below l.v (at l.self);
  limit : unsigned_abs l.sum ≤ 1000000 * l.v;
}
