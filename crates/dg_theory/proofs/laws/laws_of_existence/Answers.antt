use Rattle.dg_theory.proofs.ExistenceLaws.{reduced_exists, rich_is_winnable}
use Rattle.dg_theory.proofs.laws.laws_of_existence.Goals as goal

pub returns-clause-reduced : goal.returns-clause-reduced
returns-clause-reduced c = reduced_exists

pub returns-clause-rich : goal.returns-clause-rich
returns-clause-rich c = rich_is_winnable
