use Rattle.dg_rules.proofs.Common.{call_request}
use Rattle.dg_rules.proofs.LegalLaws.{legal_more, back_asked}
use Rattle.dg_rules.proofs.StateLaws.{replies_after}
use Rattle.dg_rules.proofs.game.Game.reply_to_call.Goals as goal

pub returns-clause-here : goal.returns-clause-here
returns-clause-here c = λ before. rw c.write_request.ensures (c.reply_to_plain.ensures before)

pub returns-clause-replies : goal.returns-clause-replies
returns-clause-replies c = λ o H leads.
    rw c.write_request.ensures (replies_after o H _ (call_request c.args.plain.now) _ leads (c.reply_to_plain.ensures _))

pub returns-clause-legal : goal.returns-clause-legal
returns-clause-legal c = λ o H leads legal is.
    legal_more o H _ legal is (rw c.write_request.ensures (back_asked H c.args.plain.now))
    (rw c.write_request.ensures (replies_after o H _ (call_request c.args.plain.now) _ leads (c.reply_to_plain.ensures _)))
