use Rattle.dg_session.proofs.SessionLaws.{so_far_new, session_unsaid}
use Rattle.dg_session.proofs.serving.serve_lines.Goals as goal

pub returns-in_default-clause-session : goal.returns-in_default-clause-session
returns-in_default-clause-session g c = session_unsaid (so_far_new c.requires.some)

pub returns-in_default-new-clause-session : goal.returns-in_default-new-clause-session
returns-in_default-new-clause-session g c = session_unsaid (so_far_new c.requires.some)
