use Rattle.dg_rank.proofs.Common.{◌≡◌, ℕ, ◌<◌, ◌≤◌, length, sum, None, at}
use Rattle.dg_rank.specs.Prices.{paid, AreCosts, IsTwinClosed}
use Rattle.dg_rank.proofs.boxes.close.Given as goal

abbrev pub invariant-loop-u : goal.invariant-loop-u
invariant-loop-u l = record {
  places : length l.room ≡ 16;
  closed : IsTwinClosed l.graph (at l.left) (paid None l.lost) l.fn.room l.v l.dollars l.room;
  fewer : sum l.room < sum l.fn.room;
  priced : length l.costs ≡ 16;
  costs : (most : ℕ) → l.dollars ≤ most → AreCosts (paid None l.lost) l.fn.room most l.fn.costs →
      AreCosts (paid None l.lost) l.room most l.costs;
}
