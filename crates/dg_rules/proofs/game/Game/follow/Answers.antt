use Rattle.dg_rules.proofs.StateLaws.{leads_more}
use Rattle.dg_rules.proofs.game.Game.follow.Goals as goal

pub returns-clause-leads : goal.returns-clause-leads
returns-clause-leads c = λ o H leads right.
    leads_more o H c.args.self.now c.update.new.self c.args.entry.now leads right c.update.ensures
