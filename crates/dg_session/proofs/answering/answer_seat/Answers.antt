use Rattle.dg_session.proofs.Lines.{heard, bad_heard}
use Rattle.dg_session.proofs.answering.answer_seat.Goals as goal

pub returns-in-Ok : goal.returns-in-Ok
returns-in-Ok g c = heard c.in-Ok.ensures.command c.obey.ensures

pub returns-in-Err : goal.returns-in-Err
returns-in-Err g c = bad_heard c.in-Err.fault c.in-Err.ensures.refused
