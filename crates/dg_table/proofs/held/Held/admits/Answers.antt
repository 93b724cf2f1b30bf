use Rattle.dg_table.proofs.Common.{rules, IsAdmissible}
use Rattle.dg_table.proofs.Entries.{all_own}
use Rattle.dg_table.proofs.Numbered.{begins_on}
use Rattle.dg_table.proofs.held.Held.admits.Goals as goal

pub returns-clause-holds : goal.returns-clause-holds
returns-clause-holds g c = λ is.
    let admissible : IsAdmissible c.args.self.now.entries c.args.seat.now = search rules in
    let count = rw (← c.self.view_is) at admissible.count in
    let known = c.met-2.ensures.found in
    let begins = rw c.met-2.ensures.met at c.began.ensures in
    rw (← c.self.view_is) (record {
      prefix = begins_on _ _ _ known.since begins;
      met = begins;
      mine = all_own c.args.seat.now.number c.args.seat.now.prefix c.self.inside.pen.entries c.args.seat.now.mine
          (begins_on _ _ _ known.since begins) known.own count;
      told = rw c.told_set-2.ensures at c.holds.ensures;
    })
