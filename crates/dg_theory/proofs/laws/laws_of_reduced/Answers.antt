use Rattle.dg_theory.proofs.ReducedLaws.{reduced_once, reduced_decides}
use Rattle.dg_theory.proofs.laws.laws_of_reduced.Goals as goal

pub returns-clause-once : goal.returns-clause-once
returns-clause-once c = reduced_once

pub returns-clause-decides : goal.returns-clause-decides
returns-clause-decides c = reduced_decides
