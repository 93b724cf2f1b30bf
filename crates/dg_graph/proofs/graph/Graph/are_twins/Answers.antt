use Rattle.dg_graph.proofs.Common.{◌<◌, ◌≤◌, arith, sym, ◌∙◌, ⊎_elim, cases_lt}
use Rattle.dg_graph.proofs.graph.Graph.are_twins.Goals as goal

pub returns : goal.returns
returns c w off_u off_v = ⊎_elim
    (λ (below : w < c.args.self.now.size). c.loop-w.invariant w (omega arith) off_u off_v)
    (λ (past : c.args.self.now.size ≤ w).
    let graph = c.size-w-end.ensures.graph.multigraph in
    graph.inside c.args.u w past ∙ sym (graph.inside c.args.v w past))
    (cases_lt w c.args.self.now.size)
