use Rattle.dg_table.proofs.Common.{◌≡◌, ℕ, ◌+◌, ◌==◌, Bool, [], ◌∷◌, ◌++◌, length, enumerate_from, arith, refl, sym, ap, subst, ◌∙◌, Replies, LeadsTo, Entry, right_in, Written}
use Rattle.std.proofs.Common.{not}
use Rattle.std.proofs.lemmas.List.Filters.{length-filter_both}
use Rattle.std.proofs.lemmas.List.FromFn.{length-enumerate_from}
use Rattle.dg_table.proofs.Rolls.{roll_more}
use Rattle.dg_table.proofs.Steps.{held_more, history_more, answered}
use Rattle.dg_table.proofs.held.Held.enter.Goals as goal

pub follow-requires-clause-right : goal.follow-requires-clause-right
follow-requires-clause-right g c =
    let e : Entry = c.args.slot.value in
    let replies = rw (← c.self.view_is) at c.requires.replies in
    let entry : c.entry-entry.result.now ≡ e = c.entry-entry.ensures ∙ ap (λ (r : ℕ × Entry). r.1) c.in-Ok.ensures.0 in
    right_in g.N.Name.table.start c.self.inside.pen.entries c.self.inside.game _ _ c.self.invariant.0.game' (rw entry replies)

pub take_receipt-requires-clause-next : goal.take_receipt-requires-clause-next
take_receipt-requires-clause-next g c =
    let e : Entry = c.args.slot.value in
    let H = c.self.inside.pen.entries in
    let receipt : c.in-Ok.receipt ≡ (length H, e) = c.in-Ok.ensures.0 in
    let entry : c.entry-entry.result.now ≡ e = c.entry-entry.ensures ∙ ap (λ (r : ℕ × Entry). r.1) receipt in
    let history : c.put.new.self.entries ≡ H ++ e ∷ [] = ap (λ (w : Written). w.entries) c.in-Ok.ensures.1 in
    rw entry (
      H,
      c.prefix.ensures ∙ history,
      receipt,
      c.requires.seat,
      rw (← c.self.view_is) at c.requires.ready.holds,
      c.self.invariant.0.game',
      rw (← c.self.view_is) at c.requires.replies,
    )

pub take_receipt-requires-clause-found : goal.take_receipt-requires-clause-found
take_receipt-requires-clause-found g c =
    let e : Entry = c.args.slot.value in
    let H = c.self.inside.pen.entries in
    let history : c.put.new.self.entries ≡ H ++ e ∷ [] = ap (λ (w : Written). w.entries) c.in-Ok.ensures.1 in
    rw (c.prefix.ensures, history) (history_more g.N.Name.table H e c.self.invariant.0.seated
    (omega (arith, c.place.ensures.place, c.requires.seat)) (omega (arith, c.place.ensures.most, c.requires.seat))
    (rw (← c.self.view_is) at c.requires.ready.room) (rw (← c.self.view_is) at c.requires.legal))

pub overflow_add-self : goal.overflow_add-self
overflow_add-self g c =
    let own : ℕ × Entry → Bool = λ p. p.1.seat == (c.from-place.result + 1) in
    let H = c.self.inside.pen.entries in
    let all = length-filter_both own (λ p. not (own p)) (λ p. refl) (enumerate_from 0 H) in
    omega (
      arith,
      all,
      length-enumerate_from 0 H,
      c.self.invariant.0.counted c.from-place.result (omega (
        arith,
        c.from-place.ensures,
        c.place.ensures.place,
        c.requires.ready.seat,
      )),
      rw (← c.self.view_is) at c.requires.ready.room,
      c.requires.ready.limit,
    )

pub invariant_of-self-2 : goal.invariant_of-self-2
invariant_of-self-2 g c =
    let e : Entry = c.args.slot.value in
    let given = c.take_receipt.ensures in
    let receipt : c.in-Ok.receipt ≡ (length c.self.inside.pen.entries, e) = c.in-Ok.ensures.0 in
    let history : c.put.new.self.entries ≡ c.self.inside.pen.entries ++ e ∷ [] =
    ap (λ (w : Written). w.entries) c.in-Ok.ensures.1 in
    let legal = rw (← c.self.view_is) at c.requires.legal in
    let replies = rw (← c.self.view_is) at c.requires.replies in
    let entry : c.entry-entry.result.now ≡ e = c.entry-entry.ensures ∙ ap (λ (r : ℕ × Entry). r.1) c.in-Ok.ensures.0 in
    let H = c.self.inside.pen.entries in
    let shown = subst (λ (x : Entry). Replies g.N.Name.table.start H x.request x.reply) (sym entry) replies in
    let leads = subst (λ (x : Entry). LeadsTo g.N.Name.table.start (H ++ x ∷ []) c.follow.new.self) entry
    (c.follow.ensures.leads g.N.Name.table.start H c.self.invariant.0.game' shown) in (
      rw history (held_more e c.from-place.result _ c.self.invariant.0 legal leads
          (omega (arith, c.from-place.ensures, c.place.ensures.place, c.requires.seat))
          (omega (arith, c.place.ensures.most, c.requires.seat)) refl),
      c.self.invariant.1,
      given.roll ∙ c.self.invariant.2,
      rw history (roll_more c.self.inside.pen.entries e c.self.invariant.3 c.requires.seat
          (given.prefix ∙ c.prefix.ensures ∙ history) (rw receipt at given.mine) given.signed),
    )

pub returns-clause-entered : goal.returns-clause-entered
returns-clause-entered g c =
    let e : Entry = c.args.slot.value in
    let H = c.self.inside.pen.entries in
    let receipt : c.in-Ok.receipt ≡ (length H, e) = c.in-Ok.ensures.0 in
    let history : c.put.new.self.entries ≡ H ++ e ∷ [] = ap (λ (w : Written). w.entries) c.in-Ok.ensures.1 in
    let found = history_more g.N.Name.table H e c.self.invariant.0.seated
    (omega (arith, c.place.ensures.place, c.requires.seat)) (omega (arith, c.place.ensures.most, c.requires.seat))
    (rw (← c.self.view_is) at c.requires.ready.room) (rw (← c.self.view_is) at c.requires.legal) in
    let given = c.take_receipt.ensures in
    rw (← c.self.view_is, receipt) (
      answered e _ (rw (← c.self.view_is) at c.requires.replies) found (rw (← c.self.view_is) at c.requires.ready.holds)
          c.requires.seat given.number (rw receipt at given.mine) given.told (given.prefix ∙ c.prefix.ensures ∙ history)
          (given.met ∙ c.prefix.ensures ∙ history),
      c.in-Ok.ensures.1,
    )
