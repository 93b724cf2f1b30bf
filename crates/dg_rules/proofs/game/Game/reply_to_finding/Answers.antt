use Rattle.dg_rules.proofs.LegalLaws.{legal_more, back_for}
use Rattle.dg_rules.proofs.game.Game.reply_to_finding.Goals as goal

pub returns-clause-replies : goal.returns-clause-replies
returns-clause-replies c = λ o H leads look.
    rw c.request-entry.ensures (c.reply_to_right_finding.ensures.replies o H leads look)

pub returns-clause-legal : goal.returns-clause-legal
returns-clause-legal c = λ o H leads look legal is.
    legal_more o H _ legal is (rw c.request-entry.ensures (back_for o H c.args.look.now c.args.finding.now look))
    (rw c.request-entry.ensures (c.reply_to_right_finding.ensures.replies o H leads look))
