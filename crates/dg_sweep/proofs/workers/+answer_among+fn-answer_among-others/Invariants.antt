use Rattle.dg_sweep.proofs.Common.{◌-◌, ◌*◌}
use Rattle.dg_sweep.proofs.workers.+answer_among+fn-answer_among-others.Given as goal

abbrev pub decreases-answer_among : goal.decreases-answer_among
decreases-answer_among g l = 2 * l.workers

abbrev pub decreases-others : goal.decreases-others
decreases-others g l = 2 * l.workers - 1
