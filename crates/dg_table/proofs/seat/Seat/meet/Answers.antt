use Rattle.dg_table.proofs.Numbered.{begins_on}
use Rattle.dg_table.proofs.Totals.{longer_history}
use Rattle.dg_table.proofs.seat.Seat.meet.Goals as goal

pub invariant_of-self : goal.invariant_of-self
invariant_of-self g c =
    let kept = c.self.invariant.0 in
    let claim = c.self.invariant.1 in
    let longer = c.longer-self-inside.ensures in (
      record {
        least = kept.least;
        most = kept.most;
        found = kept.found;
        own = kept.own;
        met = longer_history kept.met c.requires longer;
        since = begins_on _ _ _ kept.since longer.first;
        told_said = kept.told_said;
        look_kept = kept.look_kept;
      },
      record { roll = claim.roll; place = claim.place; tally = claim.tally },
    )
