use Rattle.dg_session.proofs.Common.{◌∙◌, ap, sym, refl, subst, inl, inr, Some, IsRankFault, LookView, look_of}
use Rattle.dg_session.proofs.Made.{rank_made, rank_within, rank_past, gains_same, entered, unlooked, call_refused, at_look}
use Rattle.dg_session.proofs.answering.enter_tried_rank.Goals as goal

pub returns-in_default : goal.returns-in_default
returns-in_default g c =
    unlooked (sym c.take.ensures.value ∙ c.in_default.is) c.take.ensures.after (refl, refl, refl)

pub returns-in-Ok-commit_rank : goal.returns-in-Ok-commit_rank
returns-in-Ok-commit_rank g c =
    let (same, tried) = c.in-Ok.ensures.tried in
    at_look (sym c.take.ensures.value ∙ c.in-Some.is)
    (entered c.args.shared.now.named (rank_made same tried c.in-Ok-commit_rank.ensures.settled)
    (λ text enters. inr (rank_within c.receipt-receipt.ensures.taken tried.within, enters))
    (ap look_of c.take.ensures.after))

pub returns-in-Err : goal.returns-in-Err
returns-in-Err g c =
    let (same, tried) = c.in-Ok.ensures.tried in
    at_look (sym c.take.ensures.value ∙ c.in-Some.is)
    (call_refused (rank_within c.receipt-receipt.ensures.taken tried.within) c.in-Err.ensures.fault.1.0
    c.in-Err.ensures.fault.1.1)

pub returns-in-Err-default-TooMany : goal.returns-in-Err-default-TooMany
returns-in-Err-default-TooMany g c =
    let (same, prefix) = c.in-Err-default-TooMany.ensures.tried in
    let past = rank_past c.receipt-receipt.ensures.taken
    (subst (IsRankFault c.in-Some.look.shown.graph.size c.args.k c.args.shared.now.workers)
    c.in-Err-default-TooMany.field-0-1-is prefix) in
    at_look (sym c.take.ensures.value ∙ c.in-Some.is)
    (record {
      does = inl (past, (refl, ap (λ (l : LookView). Some l.receipt.0) same, refl));
      gained = gains_same c.args.seat.now;
      named = tt;
    })

pub returns-in-Err-default-Spawn : goal.returns-in-Err-default-Spawn
returns-in-Err-default-Spawn g c =
    let (same, spawn) = c.in-Err-default-Spawn.ensures.tried in
    let within = rank_within c.receipt-receipt.ensures.taken
    (subst (IsRankFault c.in-Some.look.shown.graph.size c.args.k c.args.shared.now.workers)
    c.in-Err-default-Spawn.field-0-1-is spawn).0 in
    at_look (sym c.take.ensures.value ∙ c.in-Some.is)
    (record {
      does = (refl, (c.in-Err-default-Spawn.ensures.spawn c.in-Err-default-Spawn.field-0-1-is, within));
      gained = gains_same c.args.seat.now;
      named = tt;
    })
