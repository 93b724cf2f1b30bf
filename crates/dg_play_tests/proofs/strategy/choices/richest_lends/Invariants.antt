use Rattle.std.proofs.Common.{◌<◌}
use Rattle.dg_play_tests.proofs.strategy.choices.richest_lends.Given as goal

abbrev pub invariant-loop-v : goal.invariant-loop-v
invariant-loop-v l = l.richest < l.graph.size
