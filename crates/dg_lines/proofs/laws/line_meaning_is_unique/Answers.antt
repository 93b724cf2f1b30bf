use Rattle.dg_lines.proofs.laws.line_meaning_is_unique.Goals as goal

pub returns-clause-one : goal.returns-clause-one
returns-clause-one c = Rattle.dg_lines.proofs.Meaning.line_meaning_is_unique
