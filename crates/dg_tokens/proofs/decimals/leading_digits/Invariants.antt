-- The bytes so far are digits, and the number is theirs.
use Rattle.dg_tokens.proofs.Reading.{AreDigitsTo}
use Rattle.dg_tokens.proofs.decimals.leading_digits.Given as goal

abbrev pub invariant-loop-count : goal.invariant-loop-count
invariant-loop-count l = AreDigitsTo l.front l.number l.count
