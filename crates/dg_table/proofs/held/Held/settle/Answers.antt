use Rattle.dg_table.proofs.Common.{rules, slice_get_within, KeepsFinding}
use Rattle.dg_table.proofs.Findings.{look_stands}
use Rattle.dg_table.proofs.Steps.{settling_refused, settled}
use Rattle.dg_table.proofs.held.Held.settle.Goals as goal

pub reply_to_finding-requires-clause-look : goal.reply_to_finding-requires-clause-look
reply_to_finding-requires-clause-look g c =
    let held = rw c.self.view_is at c.self.invariant.0 in
    (_, _, held.game', look_stands _ _ _ _ held.legal c.requires.look c.in-Ok.ensures.1)

pub reply_to_finding-requires-clause-found : goal.reply_to_finding-requires-clause-found
reply_to_finding-requires-clause-found g c =
    let held = rw c.self.view_is at c.self.invariant.0 in
    rw held.game'.q c.requires.found

pub enter-requires-clause-replies : goal.enter-requires-clause-replies
enter-requires-clause-replies g c =
    let held = rw c.self.view_is at c.self.invariant.0 in
    c.reply_to_finding.ensures.replies _ _ held.game' (look_stands _ _ _ _ held.legal c.requires.look c.in-Ok.ensures.1)

pub enter-requires-clause-legal : goal.enter-requires-clause-legal
enter-requires-clause-legal g c =
    let held = rw c.self.view_is at c.self.invariant.0 in
    c.reply_to_finding.ensures.legal _ _ held.game' (look_stands _ _ _ _ held.legal c.requires.look c.in-Ok.ensures.1)
    held.legal (rw c.number.ensures c.in-Ok.ensures.0.seat)

pub returns-in_err-receipt-clause-refused : goal.returns-in_err-receipt-clause-refused
returns-in_err-receipt-clause-refused g c =
    let (ready, stands) = c.in-Ok.ensures in
    let refused = settling_refused g.N.Name.table c.args.self.now c.enter.new.self c.args.look.now.0 c.args.seat.now
    c.in_err-receipt.field-0.0 ready.admissible (slice_get_within c.args.self.now.entries _ c.args.look.now.1 stands)
    c.in_err-receipt.ensures.refused.2 in
    search rules

pub returns-clause-settled : goal.returns-clause-settled
returns-clause-settled g c =
    let H = c.args.self.now.entries in
    let entered = c.in_ok-receipt.ensures.entered in
    let kept : KeepsFinding c.args.finding.now c.in_ok-receipt.receipt.1.reply =
    rw c.in_ok-receipt.ensures.reply c.reply_to_finding.ensures.kept in (
      settled g.N.Name.table H c.args.look.now c.args.shown.now c.args.finding.now c.in_ok-receipt.receipt
          c.args.seat.now c.enter.new.seat
          c.learn_reserved.new.self (rw c.reply_to_finding.ensures.request at entered.0) c.requires.look c.in-Ok.ensures.1
          kept c.learn_reserved.ensures.number c.learn_reserved.ensures.mine c.learn_reserved.ensures.told
          c.learn_reserved.ensures.prefix c.learn_reserved.ensures.met,
      entered.1,
    )
