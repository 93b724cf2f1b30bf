use Rattle.dg_session.proofs.Common.{refl, JudgeQuestion}
use Rattle.dg_session.proofs.Made.{settled_made, stale_made, entered, unlooked, call_refused, obeys_after, at_look}
use Rattle.dg_session.proofs.answering.enter_verdict.Goals as goal

pub returns-in_default : goal.returns-in_default
returns-in_default g c = unlooked c.in_default.is c.in_default.is (refl, refl, refl)

pub returns-in-Ok-Some : goal.returns-in-Ok-Some
returns-in-Ok-Some g c =
    at_look c.in-Some.is
    (entered c.args.shared.now.named (stale_made JudgeQuestion
    (rw c.in-Ok-Some.field-0-is at c.in-Ok-Some.ensures.settled)) (λ text enters. enters) refl)

pub returns-in-Ok : goal.returns-in-Ok
returns-in-Ok g c =
    let (found, reckoned, committed) = c.in-Ok.ensures.settled in
    at_look c.in-Some.is
    (obeys_after (rw c.in-Ok-None.field-0-is at c.in-Ok-None.ensures.settled).kept
    (entered c.args.shared.now.named (settled_made (rw reckoned.look at committed)) (λ text enters. enters) refl))

pub returns-in-Err-commit_look : goal.returns-in-Err-commit_look
returns-in-Err-commit_look g c =
    at_look c.in-Some.is
    (obeys_after (rw c.in-Ok-None.field-0-is at c.in-Ok-None.ensures.settled).kept
    (call_refused tt c.in-Err-commit_look.ensures.fault.0 c.in-Err-commit_look.ensures.fault.1))

pub returns-in-Err : goal.returns-in-Err
returns-in-Err g c = at_look c.in-Some.is (call_refused tt c.in-Err.ensures.fault.0 c.in-Err.ensures.fault.1)
