use Rattle.dg_session.proofs.Common.{◌≤◌, length, refl, arith}
use Rattle.dg_session.proofs.InOrder.{session_of}
use Rattle.dg_session.proofs.SessionLaws.{session_alone, script_unsaid, script_halts, script_ends}
use Rattle.dg_session.proofs.serving.serve_unheard.Goals as goal

pub returns-in_default-clause-session : goal.returns-in_default-clause-session
returns-in_default-clause-session g c =
    let some : 1 ≤ length c.from_mut-seats.result.now = rw c.from_mut-seats.ensures.value (omega arith) in
    session_alone _ c.from_mut-seats.ensures.value
    (session_of (script_unsaid some c.args.script.now) c.seats_have_prefixes.ensures)

pub returns-in-Ok-clause-session : goal.returns-in-Ok-clause-session
returns-in-Ok-clause-session g c =
    let some : 1 ≤ length c.from_mut-seats.result.now = rw c.from_mut-seats.ensures.value (omega arith) in
    session_alone _ c.from_mut-seats.ensures.value
    (session_of (script_ends some c.args.script.now (rw c.in-Some.ensures.begins at c.take-taken.ensures.taken) c.in-Ok.is
    (rw c.in-Ok.is at c.take-taken.ensures.pending refl)) c.seats_have_prefixes-2.ensures)

pub returns-clause-session : goal.returns-clause-session
returns-clause-session g c =
    let some : 1 ≤ length c.from_mut-seats.result.now = rw c.from_mut-seats.ensures.value (omega arith) in
    session_alone _ c.from_mut-seats.ensures.value
    (session_of (script_halts some c.args.script.now (rw c.in-Some.ensures.begins at c.take-taken.ensures.taken) c.in-Err.end
    c.in-Err.is) c.seats_have_prefixes-2.ensures)
