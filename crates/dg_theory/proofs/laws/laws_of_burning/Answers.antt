use Rattle.dg_theory.proofs.BurningLaws.{unburnt_fires, greatest_is_one, burnt_is_reduced}
use Rattle.dg_theory.proofs.BurntWhole.{burns_to_reduced}
use Rattle.dg_theory.proofs.laws.laws_of_burning.Goals as goal

pub returns-clause-unburnt : goal.returns-clause-unburnt
returns-clause-unburnt c = unburnt_fires

pub returns-clause-one : goal.returns-clause-one
returns-clause-one c = greatest_is_one

pub returns-clause-burnt : goal.returns-clause-burnt
returns-clause-burnt c = burnt_is_reduced

pub returns-clause-all : goal.returns-clause-all
returns-clause-all c = burns_to_reduced
