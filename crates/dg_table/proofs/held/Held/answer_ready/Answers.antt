use Rattle.dg_table.proofs.held.Held.answer_ready.Goals as goal

pub enter-requires-clause-legal : goal.enter-requires-clause-legal
enter-requires-clause-legal g c =
    let held = rw c.self.view_is at c.self.invariant.0 in
    c.reply_to_call.ensures.legal g.N.Name.table.start c.args.self.now.entries
    held.game' held.legal (rw c.number.ensures c.requires.ready.seat)
