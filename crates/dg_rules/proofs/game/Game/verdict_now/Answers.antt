use Rattle.dg_rules.proofs.Common.{sym, subst, fired, at, IsRightVerdict, right-cong, GameState, IsState}
use Rattle.dg_rules.proofs.LookLaws.{carried}
use Rattle.dg_rules.proofs.game.Game.verdict_now.Goals as goal

pub rebase-requires : goal.rebase-requires
rebase-requires c =
    let state : IsState c.args.self.now = subst (λ (s : GameState). IsState s) c.self.view_is c.self.invariant in
    rw c.q.ensures.q (carried c.args.self.now
    (at c.args.then.now) c.args.verdict.now c.drift_from-since.result state c.requires.right
    c.drift_from-since.ensures.size c.drift_from-since.ensures.led)

pub returns-clause-right : goal.returns-clause-right
returns-clause-right c =
    let state : IsState c.args.self.now = subst (λ (s : GameState). IsState s) c.self.view_is c.self.invariant in
    let g = c.args.self.now.graph in
    let moved : IsRightVerdict g c.q.result (fired g (at c.args.then.now) (at c.drift_from-since.result)) c.rebase.result =
    c.rebase.ensures.right g (at c.args.then.now) state.graph.multigraph c.q.ensures.vertex
    (rw c.q.ensures.q c.requires.right)
    c.drift_from-since.ensures.size in
    right-cong g c.args.self.now.q _ (at c.args.self.now.amounts) c.rebase.result
    (λ v below. sym (c.drift_from-since.ensures.led v below))
    (rw c.q.ensures.q at moved)
