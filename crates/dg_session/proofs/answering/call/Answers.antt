use Rattle.dg_session.proofs.Common.{sym}
use Rattle.dg_session.proofs.Made.{call_made, entered, call_keeps, call_refused}
use Rattle.dg_session.proofs.answering.call.Goals as goal

pub returns-in-Ok : goal.returns-in-Ok
returns-in-Ok g c = λ kept.
    entered c.args.shared.now.named (call_made c.args.plain.now c.in-Ok.ensures.answered) (λ text enters. enters)
    (sym (call_keeps _ _ c.args.plain.now c.requires))

pub returns-in-Err : goal.returns-in-Err
returns-in-Err g c = λ kept. call_refused tt c.in-Err.ensures.fault.0 c.in-Err.ensures.fault.1
