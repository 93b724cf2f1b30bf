use Rattle.dg_table.proofs.Common.{◌≡◌, ℕ, ◌+◌, List, [], ◌∷◌, ◌++◌, length, ap, ◌∙◌, refl, Entry}
use Rattle.dg_table.proofs.Rolls.{tally_more}
use Rattle.dg_table.proofs.Steps.{kept_more}
use Rattle.dg_table.proofs.seat.Seat.take_receipt.Goals as goal

pub invariant_of-self : goal.invariant_of-self
invariant_of-self g c =
    let next = rw (← c.self.view_is) at c.requires.next in
    let H : List Entry = next.0 in
    let claim = c.self.invariant.1 in
    let items : c.push.new.self.items ≡ c.self.inside.mine.items ++ (length H, c.args.entry.now) ∷ [] =
    (rw c.unwrap.ensures at c.push.ensures.items) ∙ ap (λ p. c.self.inside.mine.items ++ p ∷ []) (c.again.ensures ∙ next.2) in
    let seen = c.keep_look.ensures g.N.Name.table.start H c.self.inside.mine.items next.5 next.6
    c.self.invariant.0.look_kept in (
      kept_more H c.args.entry.now c.self.invariant.0 (rw next.1 at c.requires.found) next.4.mine next.3 seen refl items refl
          (c.copy-self-inside.ensures ∙ next.1) (c.copy-self-inside-2.ensures ∙ next.1),
      record {
        roll = c.sign.ensures.4 ∙ claim.roll;
        place = ap (λ i. i + 1) c.sign.ensures.5 ∙ claim.place;
        tally = tally_more c.self.inside.claim.tally.1 c.self.inside.mine.items (length H, c.args.entry.now)
            (ap (λ (p : ℕ × ℕ). p.1) claim.tally) c.sign.ensures.6 c.len.ensures c.copy-self-inside.ensures items;
      },
    )
