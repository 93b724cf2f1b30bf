use Rattle.dg_table.proofs.Common.{◌+◌, ap, sym, ◌∙◌, Some, slice_set}
use Rattle.dg_table.proofs.Rolls.{tally_shown, set_same}
use Rattle.dg_table.proofs.seat.Seat.show_claim.Goals as goal

pub invariant_of-self : goal.invariant_of-self
invariant_of-self g c =
    let claim = c.self.invariant.1 in (
      c.self.invariant.0,
      record {
        roll = c.sign.ensures.4 ∙ claim.roll;
        place = ap (λ i. i + 1) c.sign.ensures.5 ∙ claim.place;
        tally = tally_shown c.self.inside.claim.tally claim.tally c.sign.ensures.6 c.len.ensures;
      },
    )

pub returns-clause-roll : goal.returns-clause-roll
returns-clause-roll g c =
    let claim = c.self.invariant.1 in
    let same = sym c.sign.ensures.6
    ∙ tally_shown c.self.inside.claim.tally claim.tally c.sign.ensures.6 c.len.ensures ∙ sym claim.tally in (
      c.sign.ensures.1,
      c.sign.ensures.2 ∙ ap (slice_set c.args.roll.now.tallies c.self.inside.claim.place) same
          ∙ set_same c.args.roll.now.tallies c.self.inside.claim.place c.self.inside.claim.tally c.sign.ensures.0,
    )

pub returns-clause-shown : goal.returns-clause-shown
returns-clause-shown g c =
    let claim = c.self.invariant.1 in
    rw (← c.self.view_is) record {
      place = c.self.inside.claim.place;
      number = claim.place;
      tally = c.sign.ensures.0 ∙ ap Some claim.tally;
    }
