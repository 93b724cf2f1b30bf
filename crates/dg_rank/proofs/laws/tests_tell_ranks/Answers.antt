use Rattle.dg_rank.proofs.Ladder.{rank_by_ladder, ranks_by_ladders}
use Rattle.dg_rank.proofs.laws.tests_tell_ranks.Goals as goal

pub returns-clause-one : goal.returns-clause-one
returns-clause-one c = rank_by_ladder

pub returns-clause-both : goal.returns-clause-both
returns-clause-both c = ranks_by_ladders
