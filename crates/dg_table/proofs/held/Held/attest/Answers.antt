use Rattle.dg_table.proofs.Common.{ap, length, ◌∙◌, entries_of}
use Rattle.dg_table.proofs.Entries.{all_own}
use Rattle.dg_table.proofs.held.Held.attest.Goals as goal

pub began-requires : goal.began-requires
began-requires g c =
    let shown = c.show_claim.ensures.shown in
    let tally = c.self.invariant.3 shown.place _ shown.tally in
    rw (c.prefix.ensures.prefix, c.show_claim.ensures.seat) tally.0

pub returns-clause-attested : goal.returns-clause-attested
returns-clause-attested g c =
    let shown = c.show_claim.ensures.shown in
    let tally = c.self.invariant.3 shown.place _ shown.tally in
    let H = c.self.inside.pen.entries in
    let found = rw c.show_claim.ensures.seat at c.prefix.ensures.found in
    let begins = rw (c.prefix.ensures.prefix, c.show_claim.ensures.seat) at c.began.ensures in
    let count = tally.1 ∙ ap (λ s. length (entries_of s H)) shown.number in
    rw (← c.self.view_is) record {
      prefix = begins;
      mine = all_own c.args.seat.now.number c.args.seat.now.prefix H c.args.seat.now.mine begins found.own count;
    }

pub invariant_of-self : goal.invariant_of-self
invariant_of-self g c =
    let roll = c.show_claim.ensures.roll in
    (c.self.invariant.0, c.self.invariant.1, roll.0 ∙ c.self.invariant.2, rw roll.1 c.self.invariant.3)
