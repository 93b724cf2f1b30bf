use Rattle.dg_table.proofs.Common.{arith, refl, rules, slice_get_within}
use Rattle.dg_table.proofs.Findings.{look_stands}
use Rattle.dg_table.proofs.Steps.{settling_refused, staled, not_stale}
use Rattle.dg_table.proofs.Totals.{history_of}
use Rattle.dg_table.proofs.held.Held.settle_stale.Goals as goal

pub enter-requires-clause-replies : goal.enter-requires-clause-replies
enter-requires-clause-replies g c =
    let held = rw c.self.view_is at c.self.invariant.0 in
    c.reply_stale.ensures.replies _ _ held.game' (look_stands _ _ _ _ held.legal c.requires.look c.in-Ok.ensures.1)

pub enter-requires-clause-legal : goal.enter-requires-clause-legal
enter-requires-clause-legal g c =
    let held = rw c.self.view_is at c.self.invariant.0 in
    c.reply_stale.ensures.legal _ _ held.game' (look_stands _ _ _ _ held.legal c.requires.look c.in-Ok.ensures.1)
    held.legal (rw c.number.ensures c.in-Ok.ensures.0.seat)

pub returns-in_err-receipt-clause-refused : goal.returns-in_err-receipt-clause-refused
returns-in_err-receipt-clause-refused g c =
    let (ready, stands) = c.in-Ok.ensures in
    let refused = settling_refused g.N.Name.table c.args.self.now c.enter.new.self c.args.taken.now.0 c.args.seat.now
    c.in_err-receipt.field-0.0 ready.admissible (slice_get_within c.args.self.now.entries _ c.args.taken.now.1 stands)
    c.in_err-receipt.ensures.refused.2 in
    search rules

pub returns-then-gifts-shown-clause-settled : goal.returns-then-gifts-shown-clause-settled
returns-then-gifts-shown-clause-settled g c =
    let held = rw c.self.view_is at c.self.invariant.0 in
    let (ready, stands) = c.in-Ok.ensures in
    let look = look_stands _ _ _ _ held.legal c.requires.look stands in (
      refl,
      not_stale (history_of held (omega (arith, ready.room))) ready stands c.requires.look look held.game' (search rules)
          c.meet-then-gifts-shown.ensures,
    )

pub returns-clause-settled : goal.returns-clause-settled
returns-clause-settled g c =
    let held = rw c.self.view_is at c.self.invariant.0 in
    let look = look_stands _ _ _ _ held.legal c.requires.look c.in-Ok.ensures.1 in
    let entered = c.in_ok-receipt.ensures.entered in (
      staled g.N.Name.table c.args.self.now.entries c.args.taken.now c.args.shown.now c.args.asks.now c.self.inside.game
          c.in_ok-receipt.receipt c.args.seat.now c.enter.new.seat
          c.learn_reserved.new.self (rw c.reply_stale.ensures.request at entered.0) c.requires.look c.in-Ok.ensures.1
          held.game' look (λ same. search rules) (rw c.in_ok-receipt.ensures.reply c.reply_stale.ensures.stale)
          c.learn_reserved.ensures.number c.learn_reserved.ensures.mine c.learn_reserved.ensures.told
          c.learn_reserved.ensures.prefix
          c.learn_reserved.ensures.met,
      entered.1,
    )
