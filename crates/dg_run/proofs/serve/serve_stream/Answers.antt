use Rattle.dg_run.proofs.Common.{rules, sym, subst, AreFresh, IsClosed, IsCloseRefused, seats_back}
use Rattle.dg_run.proofs.Serving.{served, unclosed}
use Rattle.dg_run.proofs.serve.serve_stream.Goals as goal

pub returns-in-Ok-ended-clause-done : goal.returns-in-Ok-ended-clause-done
returns-in-Ok-ended-clause-done g c = (
  c.in-Ok-ended.field-0,
  served (record {
    seats = c.deref_mut.result.now;
    fresh = subst (AreFresh c.args.seats) (sym c.deref_mut.ensures.value) c.in-Ok.ensures;
    after = c.serve_seats-ended.new.seats;
    session = rw (← c.requires.table, ← c.names-names.ensures.value) c.in-Ok-ended.ensures.session;
  }) c.in-Ok-close.history.pen.entries c.serve_seats-ended.ensures.session.numbers
      (rw (← c.requires.table)
      (subst (λ ys. IsClosed g.N.Name.table ys
      c.in-Ok-close.history.pen.entries)
      (seats_back c.in-Ok.opened.1.len c.deref_mut.result.now c.serve_seats-ended.new.seats _ (search rules)
      c.serve_seats-ended.ensures.session.numbers) c.in-Ok-close.ensures.0)),
)

pub returns-in-Ok-close-clause-early : goal.returns-in-Ok-close-clause-early
returns-in-Ok-close-clause-early g c =
    served (record {
      seats = c.deref_mut.result.now;
      fresh = subst (AreFresh c.args.seats) (sym c.deref_mut.ensures.value) c.in-Ok.ensures;
      after = c.serve_seats-ended.new.seats;
      session = rw (← c.requires.table, ← c.names-names.ensures.value) c.in-Err-ended.ensures.session;
    }) c.in-Ok-close.history.pen.entries c.serve_seats-ended.ensures.session.numbers
    (rw (← c.requires.table)
    (subst (λ ys. IsClosed g.N.Name.table ys
    c.in-Ok-close.history.pen.entries)
    (seats_back c.in-Ok.opened.1.len c.deref_mut.result.now c.serve_seats-ended.new.seats _ (search rules)
    c.serve_seats-ended.ensures.session.numbers) c.in-Ok-close.ensures.0))

pub returns-clause-early : goal.returns-clause-early
returns-clause-early g c =
    unclosed {end = c.serve_seats-ended.result} (record {
      seats = c.deref_mut.result.now;
      fresh = subst (AreFresh c.args.seats) (sym c.deref_mut.ensures.value) c.in-Ok.ensures;
      after = c.serve_seats-ended.new.seats;
      session = rw (← c.requires.table, ← c.names-names.ensures.value) c.serve_seats-ended.ensures.session;
    }) c.in-Err-close.field-0.seats.items c.in-Err-close.field-0.missing c.serve_seats-ended.ensures.session.numbers
    (rw (← c.requires.table)
    (subst (λ ys. IsCloseRefused g.N.Name.table ys
    c.in-Err-close.field-0.seats.items c.in-Err-close.field-0.missing)
    (seats_back c.in-Ok.opened.1.len c.deref_mut.result.now c.serve_seats-ended.new.seats _ (search rules)
    c.serve_seats-ended.ensures.session.numbers) c.in-Err-close.ensures))
