use Rattle.dg_table.proofs.Common.{arith}
use Rattle.dg_table.proofs.Entries.{own_stand}
use Rattle.dg_table.proofs.seat.Seat.has_met_full.Goals as goal

pub returns-then-all_below : goal.returns-then-all_below
returns-then-all_below g c =
    let kept = c.self.invariant.0 in
    rw (← c.self.view_is) (record {
      full = omega (arith, kept.met.few, c.if-len.false, c.len-len.ensures, c.len.ensures.length);
      history = kept.met;
      prefix = kept.since;
      mine = own_stand c.self.inside.number c.self.inside.prefix c.self.inside.met c.self.inside.mine.items kept.since
          kept.own;
      told = rw kept.told_said at c.holds.ensures;
    })
