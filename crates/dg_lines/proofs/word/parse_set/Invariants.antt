-- The set is that of the names so far; each turn reads a shorter rest.
use Rattle.dg_lines.proofs.Common.{length, option_copied, items, pieces_after}
use Rattle.dg_lines.proofs.Given.{HasTaken}
use Rattle.dg_lines.proofs.word.parse_set.Given as goal

abbrev pub invariant-items : goal.invariant-items
invariant-items l = HasTaken l.names (items l.fn.text) (pieces_after 44 (option_copied l.rest)) l.set

abbrev pub decreases-items : goal.decreases-items
decreases-items l = length (pieces_after 44 (option_copied l.rest))
