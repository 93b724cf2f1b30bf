use Rattle.dg_theory.proofs.Winning.{winnable_by_script, winnable_by_class, equivalent-winnable}
use Rattle.dg_theory.proofs.Twins.{win_exchanged}
use Rattle.dg_theory.proofs.laws.laws_of_winning.Goals as goal

pub returns-clause-by_script : goal.returns-clause-by_script
returns-clause-by_script c = winnable_by_script

pub returns-clause-by_class : goal.returns-clause-by_class
returns-clause-by_class c = winnable_by_class

pub returns-clause-equivalent : goal.returns-clause-equivalent
returns-clause-equivalent c = equivalent-winnable

pub returns-clause-twins : goal.returns-clause-twins
returns-clause-twins c = win_exchanged
