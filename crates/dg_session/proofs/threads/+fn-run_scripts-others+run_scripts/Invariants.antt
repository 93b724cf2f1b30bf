use Rattle.dg_session.proofs.Common.{◌+◌, ◌*◌, length}
use Rattle.dg_session.proofs.threads.+fn-run_scripts-others+run_scripts.Given as goal

abbrev pub decreases-others : goal.decreases-others
decreases-others g l = 2 * length l.rest.now + 1

abbrev pub decreases-run_scripts : goal.decreases-run_scripts
decreases-run_scripts g l = 2 * length l.seats.now
