use Rattle.dg_table.proofs.Common.{◌≡◌, ◌++◌, drop, take, length, sym, ap, subst, ◌∙◌, take-append_seam, HaveMet}
use Rattle.dg_table.proofs.table.Table.close.Goals as goal

pub returns-in-Some : goal.returns-in-Some
returns-in-Some g c =
    let seats = c.deref.ensures.value in
    let met = c.meet_all.new.seats in
    let rest = drop (length met) c.args.seats.items in
    let long : c.args.seats.len ≡ length met = sym c.deref_mut.ensures.len ∙ sym c.meet_all.ensures.count in
    let front : take c.args.seats.len (met ++ rest) ≡ met =
    ap (λ k. take k (met ++ rest)) long ∙ take-append_seam met rest in
    record {
      history = c.into_inner-held.result.entries;
      is = c.in-Some.ensures.history;
      refused = rw seats at c.in-Some.ensures.missing;
      met = subst (HaveMet c.into_inner-held.result.entries c.args.seats.items) (sym front)
          (rw c.deref_mut.ensures.value at c.meet_all.ensures);
    }

pub returns-in-None : goal.returns-in-None
returns-in-None g c =
    let (complete, held) = rw c.deref.ensures.value at c.in-None.ensures.missing in
    let history = c.in-None.ensures.history in (
      rw c.audit.ensures.history (record {
        history = history;
        complete = complete;
        held = held;
      }),
      c.audit.ensures.totals c.args.seats.items held,
    )
