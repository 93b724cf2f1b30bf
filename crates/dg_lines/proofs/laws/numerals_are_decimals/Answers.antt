-- The law is the lemma.
use Rattle.dg_lines.proofs.laws.numerals_are_decimals.Goals as goal

pub returns : goal.returns
returns c = Rattle.dg_lines.proofs.Decimals.numerals_are_decimals
