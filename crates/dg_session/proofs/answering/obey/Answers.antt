use Rattle.dg_session.proofs.Common.{◌∙◌, ap, Call, look_of}
use Rattle.dg_session.proofs.Made.{at_command}
use Rattle.dg_session.proofs.answering.obey.Goals as goal

pub returns-in-Look : goal.returns-in-Look
returns-in-Look g c = at_command (c.in-Call.is ∙ ap Call c.in-Look.is) c.take_look.ensures

pub returns-in-Move : goal.returns-in-Move
returns-in-Move g c = at_command c.in-Call.is (c.call.ensures (look_of c.args.kept.now))
