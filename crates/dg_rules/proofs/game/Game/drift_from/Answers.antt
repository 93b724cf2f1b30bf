use Rattle.dg_rules.proofs.Common.{◌<◌, sym, subst, FiresTo, AreEquivalent, at, GameState, between_leads}
use Rattle.dg_rules.proofs.game.Game.drift_from.Goals as goal

pub returns-2-clause-led : goal.returns-2-clause-led
returns-2-clause-led c =
    let led : AreEquivalent c.self.inside.graph (at c.args.then.now) (at c.self.inside.amounts) =
    subst (λ (t : GameState). AreEquivalent t.graph (at c.args.then.now) (at t.amounts))
    (sym c.self.view_is) c.requires.led in
    let below : c.q-q.result < c.self.inside.graph.size =
    subst (λ (t : GameState). c.q-q.result < t.graph.size) (sym c.self.view_is) c.q-q.ensures.vertex in
    subst (λ (t : GameState). FiresTo t.graph (at c.between.result) (at c.args.then.now) (at t.amounts)) c.self.view_is
    (between_leads c.self.inside.graph c.q-q.result (at c.args.then.now) (at c.self.inside.amounts)
    (at c.between.result)
    c.judge-before.result c.judge-now.result below led
    c.judge-before.ensures.right c.judge-now.ensures.right
    (λ v inside. c.between.ensures.entries v (rw c.judge-before.ensures.right.script_size inside)))
