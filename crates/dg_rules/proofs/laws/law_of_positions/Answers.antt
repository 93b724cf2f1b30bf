use Rattle.dg_rules.proofs.StepLaw.{no_entry, one_more_entry, since_change, since_start, since_last, vertices_stay}
use Rattle.dg_rules.proofs.laws.law_of_positions.Goals as goal

pub returns-clause-start : goal.returns-clause-start
returns-clause-start c = no_entry

pub returns-clause-step : goal.returns-clause-step
returns-clause-step c = one_more_entry

pub returns-clause-since_change : goal.returns-clause-since_change
returns-clause-since_change c = since_change

pub returns-clause-since_start : goal.returns-clause-since_start
returns-clause-since_start c = since_start

pub returns-clause-since_last : goal.returns-clause-since_last
returns-clause-since_last c = since_last

pub returns-clause-vertices : goal.returns-clause-vertices
returns-clause-vertices c = vertices_stay
