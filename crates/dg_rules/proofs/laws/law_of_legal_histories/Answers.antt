use Rattle.dg_rules.proofs.GraphLaws.{graphs_hold}
use Rattle.dg_rules.proofs.LegalLaws.{legal_none, legal_more, legal_take, legal_part, legal_sized, legal_looks}
use Rattle.dg_rules.proofs.laws.law_of_legal_histories.Goals as goal

pub returns-clause-empty : goal.returns-clause-empty
returns-clause-empty c = legal_none

pub returns-clause-more : goal.returns-clause-more
returns-clause-more c = legal_more

pub returns-clause-beginnings : goal.returns-clause-beginnings
returns-clause-beginnings c = legal_take

pub returns-clause-parts : goal.returns-clause-parts
returns-clause-parts c = legal_part

pub returns-clause-sizes : goal.returns-clause-sizes
returns-clause-sizes c = legal_sized

pub returns-clause-graphs : goal.returns-clause-graphs
returns-clause-graphs c = graphs_hold

pub returns-clause-looks : goal.returns-clause-looks
returns-clause-looks c = legal_looks
