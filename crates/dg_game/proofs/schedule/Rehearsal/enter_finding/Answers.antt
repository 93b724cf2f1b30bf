use Rattle.dg_game.proofs.Common.{None, refl, ap, set, right_in}
use Rattle.dg_game.proofs.RehearsalLaws.{entered}
use Rattle.dg_game.proofs.schedule.Rehearsal.enter_finding.Goals as goal

pub reply_to_finding-requires-clause-look : goal.reply_to_finding-requires-clause-look
reply_to_finding-requires-clause-look c =
    let (o, H, steps, playing, keeps) = c.requires.playing in
    (o, H, playing.leads, keeps.1)

pub follow-requires-clause-right : goal.follow-requires-clause-right
follow-requires-clause-right c =
    let (o, H, steps, playing, keeps) = c.requires.playing in
    right_in o H c.args.self.now.game _ _ playing.leads (c.reply_to_finding.ensures.replies o H playing.leads keeps.1)

pub returns : goal.returns
returns c = λ o H steps command playing keeps there up trials asks.
    entered o H _ steps c.args.self.now _ c.args.seat command c.args.look.now
    playing there c.requires.seat keeps up trials c.reply_to_finding.ensures.seat (rw c.reply_to_finding.ensures.request asks)
    (c.reply_to_finding.ensures.legal o H playing.leads keeps.1 playing.legal c.requires.seat)
    (c.follow.ensures.leads o H playing.leads (c.reply_to_finding.ensures.replies o H playing.leads keeps.1)) refl
    (ap (λ i. set c.args.self.now.looks i None) c.from.ensures)
