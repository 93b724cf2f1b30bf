use Rattle.dg_theory.proofs.FiringLaws.{fired-fired, fired-constant_script}
use Rattle.dg_theory.proofs.ConstantLaws.{same_by_constant}
use Rattle.dg_theory.proofs.Exchange.{degree_stays}
use Rattle.dg_theory.proofs.laws.laws_of_firing.Goals as goal

pub returns-clause-adds_up : goal.returns-clause-adds_up
returns-clause-adds_up c = fired-fired

pub returns-clause-constant : goal.returns-clause-constant
returns-clause-constant c = fired-constant_script

pub returns-clause-same : goal.returns-clause-same
returns-clause-same c = same_by_constant

pub returns-clause-degree : goal.returns-clause-degree
returns-clause-degree c = degree_stays
