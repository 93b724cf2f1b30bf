use Rattle.dg_session.proofs.SessionLaws.{session_alone}
use Rattle.dg_session.proofs.serving.serve.Goals as goal

pub returns : goal.returns
returns g c = record {
  session = (
    c.serve_seats.new.reader.remaining,
    c.serve_seats.new.writer.contents,
    session_alone _ c.from_mut.ensures.value
        (rw (c.new-reader.ensures.remaining, c.new-writer.ensures.contents) at c.serve_seats.ensures.session),
  );
}
