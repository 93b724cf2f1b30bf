use Rattle.dg_rank.proofs.Common.{◌-◌}
use Rattle.dg_rank.proofs.beginnings.+find_last_by_one.Given as goal

abbrev pub decreases-find_last_by_one : goal.decreases-find_last_by_one
decreases-find_last_by_one l = l.graph.now.size - l.place
