use Rattle.dg_rules.proofs.LegalLaws.{legal_more, back_on}
use Rattle.dg_rules.proofs.LookLaws.{stale_after}
use Rattle.dg_rules.proofs.game.Game.reply_stale.Goals as goal

pub returns-clause-replies : goal.returns-clause-replies
returns-clause-replies c = λ o H leads look.
    rw (c.request-entry.ensures, c.gifts.ensures)
    (stale_after o H c.args.self.now c.args.look.now c.args.asks.now leads look c.requires)

pub returns-clause-legal : goal.returns-clause-legal
returns-clause-legal c = λ o H leads look legal is.
    rw (c.request-entry.ensures, c.gifts.ensures)
    (legal_more o H _ legal is (back_on o H c.args.look.now c.args.asks.now look)
    (stale_after o H c.args.self.now c.args.look.now c.args.asks.now leads look c.requires))
