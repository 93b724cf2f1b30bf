use Rattle.dg_rules.proofs.LegalLaws.{legal_more, back_for}
use Rattle.dg_rules.proofs.StateLaws.{right_in, leads_more}
use Rattle.dg_rules.proofs.game.Game.settle.Goals as goal

pub follow-requires-clause-right : goal.follow-requires-clause-right
follow-requires-clause-right c =
    let (o, H, leads, look) = c.requires.look in
    right_in o H c.args.self.now _ _ leads (c.reply_to_finding.ensures.replies o H leads look)

pub returns-clause-replies : goal.returns-clause-replies
returns-clause-replies c = λ o H leads look.
    rw c.reply_to_finding.ensures.request at c.reply_to_finding.ensures.replies o H leads look

pub returns-clause-leads : goal.returns-clause-leads
returns-clause-leads c = λ o H seat leads look.
    leads_more o H c.args.self.now _ _ leads
    (rw c.reply_to_finding.ensures.request at c.reply_to_finding.ensures.replies o H leads look)
    (rw c.reply_to_finding.ensures.request at c.follow.ensures.next)

pub returns-clause-legal : goal.returns-clause-legal
returns-clause-legal c = λ o H seat leads look legal is.
    legal_more o H _ legal is (back_for o H c.args.look.now c.args.finding.now look)
    (rw c.reply_to_finding.ensures.request at c.reply_to_finding.ensures.replies o H leads look)
