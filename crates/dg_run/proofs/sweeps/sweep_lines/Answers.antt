-- The bytes that were swept are those that the file may give.
use Rattle.dg_run.proofs.Serving.{as_it_was}
use Rattle.dg_run.proofs.sweeps.sweep_lines.Goals as goal

pub returns-in-Err-clause-refused : goal.returns-in-Err-clause-refused
returns-in-Err-clause-refused g c = (c.in-Err.ensures.refused, as_it_was c.args.output.now.contents)

pub returns-in-Ok-sweep-clause-done : goal.returns-in-Ok-sweep-clause-done
returns-in-Ok-sweep-clause-done g c = record {
  input = c.new-reader.result.remaining;
  rest = c.sweep.new.reader.remaining;
  given = rw c.new-reader.ensures.remaining c.in-Ok.ensures.opened;
  swept = c.in-Ok-sweep.ensures.swept;
}

pub returns-clause-refused : goal.returns-clause-refused
returns-clause-refused g c = record {
  input = c.new-reader.result.remaining;
  rest = c.sweep.new.reader.remaining;
  given = rw c.new-reader.ensures.remaining c.in-Ok.ensures.opened;
  swept = c.in-Err-sweep.ensures.swept;
}
