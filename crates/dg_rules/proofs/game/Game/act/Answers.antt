use Rattle.dg_rules.proofs.Common.{ℕ}
use Rattle.dg_rules.proofs.LegalLaws.{legal_more, back_asked}
use Rattle.dg_rules.proofs.StateLaws.{leads_more}
use Rattle.dg_rules.proofs.game.Game.act.Goals as goal

pub follow-requires-clause-right : goal.follow-requires-clause-right
follow-requires-clause-right c =
    let before : ℕ → ℕ = λ i. 0 in
    (before, c.reply_to_call.ensures.here before)

pub returns-clause-replies : goal.returns-clause-replies
returns-clause-replies c = λ o H leads. rw c.reply_to_call.ensures.request at c.reply_to_call.ensures.replies o H leads

pub returns-clause-leads : goal.returns-clause-leads
returns-clause-leads c = λ o H seat leads.
    leads_more o H c.args.self.now _ _ leads (rw c.reply_to_call.ensures.request at c.reply_to_call.ensures.replies o H leads)
    (rw c.reply_to_call.ensures.request at c.follow.ensures.next)

pub returns-clause-legal : goal.returns-clause-legal
returns-clause-legal c = λ o H seat leads legal is.
    legal_more o H _ legal is (back_asked H c.args.plain)
    (rw c.reply_to_call.ensures.request at c.reply_to_call.ensures.replies o H leads)
