-- The amounts are the numbers of the words so far; each turn reads a shorter rest.
use Rattle.dg_sweep.proofs.Common.{length, option_copied, pieces_after}
use Rattle.dg_sweep.proofs.Amounts.{IsReadTo}
use Rattle.dg_sweep.proofs.divisors.parse_amounts.Given as goal

abbrev pub invariant-words : goal.invariant-words
invariant-words l = IsReadTo l.fn.line (pieces_after 32 (option_copied l.rest)) l.amounts.items

abbrev pub decreases-words : goal.decreases-words
decreases-words l = length (pieces_after 32 (option_copied l.rest))
