use Rattle.dg_session.proofs.Common.{refl, ◌∙◌}
use Rattle.dg_rules.specs.declared.entry.Plain.TheVariants.{Look}
use Rattle.dg_session.proofs.Made.{call_made, entered, call_refused}
use Rattle.dg_session.proofs.answering.take_look.Goals as goal

pub returns-in-Ok : goal.returns-in-Ok
returns-in-Ok g c =
    rw (c.again-receipt.ensures ∙ c.receipt.ensures.receipt)
    (entered c.args.shared.now.named (call_made Look c.in-Ok.ensures.answered) (λ text enters. enters) refl)

pub returns-in-Err : goal.returns-in-Err
returns-in-Err g c = call_refused tt c.in-Err.ensures.fault.0 c.in-Err.ensures.fault.1
