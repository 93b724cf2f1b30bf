-- What the streams that are used up were left as.
use Rattle.dg_run.proofs.Serving.{reader_anew, writer_anew}
use Rattle.dg_run.proofs.running.run.Goals as goal

pub returns-clause-done : goal.returns-clause-done
returns-clause-done g c well = (
  c.run_streams.new.input,
  c.run_streams.new.output,
  rw (
    reader_anew c.new-input.ensures.remaining c.new-input.ensures.has_failed,
    writer_anew c.new-output.ensures.contents c.new-output.ensures.has_failed,
  )
      at (c.run_streams.ensures.done well),
)

pub returns-clause-failed : goal.returns-clause-failed
returns-clause-failed g c ill = (
  c.run_streams.new.input,
  c.run_streams.new.output,
  rw (
    reader_anew c.new-input.ensures.remaining c.new-input.ensures.has_failed,
    writer_anew c.new-output.ensures.contents c.new-output.ensures.has_failed,
  )
      at (c.run_streams.ensures.failed ill),
)
