use Rattle.dg_rank.proofs.Common.{◌≡◌, length, List, Option, MatchOption, ℕ, ◌+◌, ◌*◌, ◌≤ℤ◌, pos, sum, degree, at, IsInLinearSystem}
use Rattle.std.specs.Option.{option_copied}
use Rattle.dg_rank.specs.Prices.{paid, BoxPays, IsUnpaid, AreCosts, IsLacking}
use Rattle.dg_rank.proofs.boxes.+boxes.Given as goal

abbrev pub decreases-find_unpaid : goal.decreases-find_unpaid
decreases-find_unpaid l = l.dollars * 2 + 1

abbrev pub decreases-part_box : goal.decreases-part_box
decreases-part_box l = l.dollars * 2

abbrev pub decreases-part_box-lacking : goal.decreases-part_box-lacking
decreases-part_box-lacking l = sum l.open * 4294967296 + l.lack.work

abbrev pub invariant-part_box-lacking : goal.invariant-part_box-lacking
invariant-part_box-lacking l = record {
  places : length l.open ≡ 16;
  priced : length l.costs ≡ 16;
  class : IsInLinearSystem l.graph (at l.fn.left) l.left;
  small : degree l.graph.size (at l.left) ≤ℤ pos 32000000;
  costs : AreCosts (paid (option_copied l.prices) l.lost) l.open l.dollars l.costs;
  lack : IsLacking l.left.size (paid (option_copied l.prices) l.lost) (at l.left) l.open l.dollars l.lack.place;
  tells : (o : Option (List ℕ)) →
      MatchOption o (BoxPays l.graph (at l.left) (paid (option_copied l.prices) l.lost) l.open l.dollars)
      (IsUnpaid l.graph (at l.left) (paid (option_copied l.prices) l.lost) l.open l.dollars) →
      MatchOption o (BoxPays l.graph (at l.fn.left) (paid (option_copied l.prices) l.lost) l.room l.dollars)
      (IsUnpaid l.graph (at l.fn.left) (paid (option_copied l.prices) l.lost) l.room l.dollars);
}
