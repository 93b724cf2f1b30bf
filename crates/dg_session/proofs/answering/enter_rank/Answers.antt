use Rattle.dg_session.proofs.Common.{refl, inr, IsTestable, RankQuestion}
use Rattle.dg_session.proofs.Made.{stale_made, rank_within, entered, call_refused, obeys_after, at_look}
use Rattle.dg_session.proofs.answering.enter_rank.Goals as goal

pub returns-in-Ok-Some : goal.returns-in-Ok-Some
returns-in-Ok-Some g c =
    let within : IsTestable c.in-Some.look.shown.graph.size c.args.k =
    (_, rw (c.size.ensures.size, c.graph.ensures) at c.in-Some-trials.ensures) in
    at_look c.in-Some.is
    (entered c.args.shared.now.named (stale_made (RankQuestion c.args.k)
    (rw c.in-Ok-Some.field-0-is at c.in-Ok-Some.ensures.settled))
    (λ text enters. inr (rank_within c.receipt-receipt.ensures.taken within, enters)) refl)

pub returns-in-Err : goal.returns-in-Err
returns-in-Err g c =
    let within : IsTestable c.in-Some.look.shown.graph.size c.args.k =
    (_, rw (c.size.ensures.size, c.graph.ensures) at c.in-Some-trials.ensures) in
    at_look c.in-Some.is
    (call_refused (rank_within c.receipt-receipt.ensures.taken within) c.in-Err.ensures.fault.0
    c.in-Err.ensures.fault.1)

pub returns-in-Ok-None : goal.returns-in-Ok-None
returns-in-Ok-None g c =
    at_look c.in-Some.is
    (obeys_after (rw c.in-Ok-None.field-0-is at c.in-Ok-None.ensures.settled).kept c.enter_tried_rank.ensures)
