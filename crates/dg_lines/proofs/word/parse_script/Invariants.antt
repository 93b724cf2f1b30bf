-- What the items so far give; each turn reads a shorter rest.
use Rattle.dg_lines.proofs.Common.{length, option_copied, items, pieces_after}
use Rattle.dg_lines.proofs.Scripts.{HasPairs}
use Rattle.dg_lines.proofs.word.parse_script.Given as goal

abbrev pub invariant-items : goal.invariant-items
invariant-items l =
    HasPairs l.names (items l.fn.text) (pieces_after 44 (option_copied l.rest)) l.given l.entries l.are_spelled

abbrev pub decreases-items : goal.decreases-items
decreases-items l = length (pieces_after 44 (option_copied l.rest))
