use Rattle.dg_tasks.proofs.Common.{◌≡◌, ◌∙◌, ◌<◌, length, sym, ap, arith, judged-named}
use Rattle.dg_tasks.proofs.printed.verdict_answer.Goals as goal

pub push_judgement-requires : goal.push_judgement-requires
push_judgement-requires c =
    let named : length c.names.result.now ≡ c.graph.result.now.size =
    c.names.ensures.named ∙ ap (λ o. o.graph.size) (sym c.start-start.ensures) ∙ ap (λ g. g.size) (sym c.graph.ensures.graph) in
    let vertex : c.q.result < c.graph.result.now.size =
    omega (arith, c.q.ensures, c.graph.ensures.start.vertex, ap (λ g. g.size) c.graph.ensures.graph) in
    judged-named _ _ _ _ c.judge-verdict.result named vertex c.judge-verdict.ensures
