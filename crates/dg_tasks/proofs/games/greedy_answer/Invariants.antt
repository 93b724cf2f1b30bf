use Rattle.dg_tasks.proofs.GreedyTurns.{IsPlayedTo}
use Rattle.dg_tasks.proofs.games.greedy_answer.Given as goal

abbrev pub invariant-turns : goal.invariant-turns
invariant-turns l = IsPlayedTo l.table.start l.names l.game l.number l.text.items
