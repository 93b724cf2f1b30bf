use Rattle.dg_table.proofs.Common.{[], ◌∷◌, ◌++◌, take, sym, ap, ◌∙◌, arith, take_all, take_more, slice_get_within, get_or_from_slice_get}
use Rattle.dg_table.proofs.audit.Audit.history.Goals as goal

pub loop-number-preserved : goal.loop-number-preserved
loop-number-preserved g c =
    let H = c.args.self.now.pen.entries in
    let n = c.loop-number.number in
    let e = c.entry.result.now in
    let there = c.entry.ensures in
    c.in_ok-push.ensures.items ∙ ap (λ es. es ++ e ∷ []) c.loop-number.invariant
    ∙ ap (λ x. take n H ++ x ∷ []) (sym (get_or_from_slice_get H n e e there))
    ∙ sym (take_more H n e (slice_get_within H n e there))

pub returns : goal.returns
returns g c =
    c.loop-number.invariant
    ∙ take_all c.loop-number.number c.args.self.now.pen.entries (omega (arith, c.len-count.ensures, c.loop-number-test.false))
