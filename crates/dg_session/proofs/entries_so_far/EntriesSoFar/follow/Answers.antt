use Rattle.dg_session.proofs.Common.{◌<◌, ◌++◌, [], ◌∷◌, length, ap, ◌∙◌, rules, EntriesSoFarView}
use Rattle.dg_session.proofs.Coming.{last_made}
use Rattle.dg_session.proofs.entries_so_far.EntriesSoFar.follow.Goals as goal

pub returns-in-Some-clause-entered : goal.returns-in-Some-clause-entered
returns-in-Some-clause-entered g c = λ before made sized is few.
    let more : length before < length c.args.seat.now.mine = search rules in
    let last = last_made before made c.args.seat.now.mine c.in-Some.receipt.now is more few c.in-Some.ensures.last in
    rw last (c.with-self-inside.ensures
    ∙ ap (λ (v : EntriesSoFarView). v.entered ++ c.in-Some.receipt.now ∷ []) c.self.view_is)
