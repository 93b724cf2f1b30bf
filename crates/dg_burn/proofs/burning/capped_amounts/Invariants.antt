use Rattle.dg_burn.proofs.Common.{◌≡◌, length, at, AreCapped}
use Rattle.dg_burn.proofs.burning.capped_amounts.Given as goal

abbrev pub invariant-loop-v : goal.invariant-loop-v
invariant-loop-v l = record {
  places : length l.held ≡ 16;
  done : AreCapped l.v (at l.chips) l.held;
}
