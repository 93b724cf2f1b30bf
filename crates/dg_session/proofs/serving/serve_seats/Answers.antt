use Rattle.dg_session.proofs.InOrder.{session_of}
use Rattle.dg_session.proofs.serving.serve_seats.Goals as goal

pub returns-clause-session : goal.returns-clause-session
returns-clause-session g c = session_of c.serve_lines-ended.ensures.session c.seats_have_prefixes.ensures
