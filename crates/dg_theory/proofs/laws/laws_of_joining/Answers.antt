use Rattle.dg_theory.proofs.JoinLaws.{edge_is_added, joined_is_multigraph, valence_grows, size_stays}
use Rattle.dg_theory.proofs.laws.laws_of_joining.Goals as goal

pub returns-clause-edges : goal.returns-clause-edges
returns-clause-edges c = edge_is_added

pub returns-clause-multigraph : goal.returns-clause-multigraph
returns-clause-multigraph c = joined_is_multigraph

pub returns-clause-valence : goal.returns-clause-valence
returns-clause-valence c = valence_grows

pub returns-clause-size : goal.returns-clause-size
returns-clause-size c = size_stays
