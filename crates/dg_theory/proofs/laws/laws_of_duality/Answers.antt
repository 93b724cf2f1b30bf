use Rattle.dg_theory.proofs.DualityLaws.{dual_tests, loss_of_dual, high_rank}
use Rattle.dg_theory.proofs.RankNumbers.{rank_once, rank_of_dual, riemann_roch}
use Rattle.dg_theory.proofs.RankExists.{rank_exists}
use Rattle.dg_theory.proofs.RankSums.{rank_of_sum, clifford, half_of_degree}
use Rattle.dg_theory.proofs.laws.laws_of_duality.Goals as goal

pub returns-clause-ranks : goal.returns-clause-ranks
returns-clause-ranks c = riemann_roch

pub returns-clause-dual : goal.returns-clause-dual
returns-clause-dual c = rank_of_dual

pub returns-clause-tests : goal.returns-clause-tests
returns-clause-tests c = dual_tests

pub returns-clause-loss : goal.returns-clause-loss
returns-clause-loss c = loss_of_dual

pub returns-clause-high : goal.returns-clause-high
returns-clause-high c = high_rank

pub returns-clause-exists : goal.returns-clause-exists
returns-clause-exists c = rank_exists

pub returns-clause-once : goal.returns-clause-once
returns-clause-once c = rank_once

pub returns-clause-sum : goal.returns-clause-sum
returns-clause-sum c = rank_of_sum

pub returns-clause-clifford : goal.returns-clause-clifford
returns-clause-clifford c = clifford

pub returns-clause-half : goal.returns-clause-half
returns-clause-half c = half_of_degree
