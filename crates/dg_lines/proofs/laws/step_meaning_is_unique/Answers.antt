use Rattle.dg_lines.proofs.laws.step_meaning_is_unique.Goals as goal

pub returns-clause-one : goal.returns-clause-one
returns-clause-one c = Rattle.dg_lines.proofs.StepMeaning.step_meaning_is_unique
