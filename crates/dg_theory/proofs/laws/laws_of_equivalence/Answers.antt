use Rattle.dg_theory.proofs.Equivalence.{equivalent-refl, equivalent-sym, equivalent-trans, equivalent_by_plays, equivalent-degree}
use Rattle.dg_theory.proofs.laws.laws_of_equivalence.Goals as goal

pub returns-clause-reflexive : goal.returns-clause-reflexive
returns-clause-reflexive c = equivalent-refl

pub returns-clause-symmetric : goal.returns-clause-symmetric
returns-clause-symmetric c = equivalent-sym

pub returns-clause-transitive : goal.returns-clause-transitive
returns-clause-transitive c = equivalent-trans

pub returns-clause-by_plays : goal.returns-clause-by_plays
returns-clause-by_plays c = equivalent_by_plays

pub returns-clause-degree : goal.returns-clause-degree
returns-clause-degree c = equivalent-degree
