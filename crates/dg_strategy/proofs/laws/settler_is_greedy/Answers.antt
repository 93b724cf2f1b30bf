use Rattle.dg_strategy.proofs.SettledGreedily.{settling_out_is_greedy}
use Rattle.dg_strategy.proofs.OneGame.{greedy_game_is_one}
use Rattle.dg_strategy.proofs.laws.settler_is_greedy.Goals as goal

pub returns-clause-settling : goal.returns-clause-settling
returns-clause-settling g c = λ choice. settling_out_is_greedy _ _ g.N.Name.table

pub returns-clause-one : goal.returns-clause-one
returns-clause-one g c = greedy_game_is_one
