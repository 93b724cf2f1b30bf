use Rattle.dg_table.proofs.Common.{◌≡◌, length, arith, refl}
use Rattle.dg_table.proofs.Entries.{own_stand}
use Rattle.dg_table.proofs.Numbered.{begins_on}
use Rattle.dg_table.proofs.Totals.{history_of}
use Rattle.dg_table.proofs.held.Held.ready.Goals as goal

pub began-requires : goal.began-requires
began-requires g c = rw c.met.ensures.met
    (omega (arith, c.met.ensures.found.met.few, c.len-len.ensures.length, c.len.ensures.length))

pub returns-then-all_below-clause-stands : goal.returns-then-all_below-clause-stands
returns-then-all_below-clause-stands g c =
    let known = c.met.ensures.found in
    let begins = rw c.met.ensures.met at c.began.ensures in
    let size : length c.self.inside.pen.entries ≡ g.N.Name.table.capacity =
    omega (arith, c.len-len.ensures.length, c.len.ensures.length) in
    rw (← c.self.view_is) (
      record {
        full = size;
        history = history_of c.self.invariant.0 (omega arith);
        prefix = begins_on _ _ _ known.since begins;
        mine = own_stand c.args.seat.now.number c.args.seat.now.prefix c.self.inside.pen.entries c.args.seat.now.mine
            (begins_on _ _ _ known.since begins) known.own;
        told = rw c.told_set-then-all_below.ensures at c.holds.ensures;
      },
      refl,
    )
