use Rattle.dg_chips.proofs.Common.{ℕ, arith, ap, sym, ◌∙◌, fired, Vector, at}
use Rattle.dg_chips.proofs.VectorLaws.{within_all}
use Rattle.dg_chips.proofs.DriftLaws.{same_answer}
use Rattle.dg_chips.proofs.drift.Drift.leads.Goals as goal

pub leads-requires-clause-lendings : goal.leads-requires-clause-lendings
leads-requires-clause-lendings c =
    within_all 100000000000000 (record { size = c.self.inside.size; numbers = c.self.inside.entries }) c.self.invariant

pub returns : goal.returns
returns c =
    let after = λ (v : ℕ) (d : Vector). fired c.args.graph.now (at c.args.from.now) (at d) v in
    same_answer c.leads.result _ _
    (λ fires v below. sym (c.of.ensures.amounts v (omega arith)) ∙ fires v below ∙ ap (after v) c.self.view_is)
    (λ fires v below. c.of.ensures.amounts v (omega arith) ∙ fires v below ∙ ap (after v) (sym c.self.view_is))
    c.leads.ensures
