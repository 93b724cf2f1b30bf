use Rattle.dg_run.proofs.Common.{inl}
use Rattle.dg_run.proofs.Serving.{as_it_was}
use Rattle.dg_run.proofs.program.perform.Goals as goal

pub returns-in-Err-clause-refused : goal.returns-in-Err-clause-refused
returns-in-Err-clause-refused g c = rw c.in-Task.is (inl (c.in-Err.ensures.refused, as_it_was c.args.output.now.contents))
