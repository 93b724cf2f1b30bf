-- The looks that were lent as a slice come back as the whole list.
use Rattle.dg_session.proofs.Common.{◌≡◌, length, refl, ap, arith, inl, inr, take-append_seam}
use Rattle.dg_session.proofs.taking.end_line.Goals as goal

pub returns-in-Err-clause-handled : goal.returns-in-Err-clause-handled
returns-in-Err-clause-handled g c = (inr (inl (rw c.in-Err.ensures refl, refl)), refl)

pub returns-in-Ok-answer_line-clause-handled : goal.returns-in-Ok-answer_line-clause-handled
returns-in-Ok-answer_line-clause-handled g c =
    let whole : length c.answer_line.new.kept ≡ c.args.progress.now.kept.len =
    omega (arith, c.answer_line.auto.kept, ap length c.as_mut_slice.ensures.value, c.args.progress.now.kept.ok.0) in
    rw (← whole, take-append_seam)
    (rw (c.in-Ok.ensures, c.as_mut_slice.ensures.value) at c.in-Ok-answer_line.ensures)

pub returns-in-Err-answer_line-clause-handled : goal.returns-in-Err-answer_line-clause-handled
returns-in-Err-answer_line-clause-handled g c =
    let whole : length c.answer_line.new.kept ≡ c.args.progress.now.kept.len =
    omega (arith, c.answer_line.auto.kept, ap length c.as_mut_slice.ensures.value, c.args.progress.now.kept.ok.0) in
    rw (← whole, take-append_seam)
    (rw (c.in-Ok.ensures, c.as_mut_slice.ensures.value) at c.in-Err-answer_line.ensures)
