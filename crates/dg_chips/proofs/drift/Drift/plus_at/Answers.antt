use Rattle.dg_chips.proofs.Common.{◌≡◌, sym, arith, ap, ◌∙◌, ◌+ℤ◌, only_at, Vector, at}
use Rattle.dg_chips.proofs.FlowLaws.{held_sum}
use Rattle.dg_chips.proofs.VectorLaws.{one_more, one_written}
use Rattle.dg_chips.proofs.drift.Drift.plus_at.Goals as goal

pub overflow_add-entry : goal.overflow_add-entry
overflow_add-entry c = (held_sum c.get.result c.args.times (omega arith) (omega arith)).0

pub invariant_of-result : goal.invariant_of-result
invariant_of-result c =
    let sum = (held_sum c.get.result c.args.times (omega arith) (omega arith)).1
    ∙ ap (λ z. z +ℤ c.args.times) c.get.ensures.entry in
    let size : c.self.inside.size ≡ c.args.self.now.size = ap (λ (a : Vector). a.size) c.self.view_is in
    one_written _ (record { size = c.self.inside.size; numbers = c.self.inside.entries }) c.args.v _ (omega arith)
    (omega arith) (rw sum c.requires.limit) c.self.invariant

pub returns-clause-entries : goal.returns-clause-entries
returns-clause-entries c = λ w below.
    let size : c.self.inside.size ≡ c.args.self.now.size = ap (λ (a : Vector). a.size) c.self.view_is in
    let sum = (held_sum c.get.result c.args.times (omega arith) (omega arith)).1
    ∙ ap (λ z. z +ℤ c.args.times) c.get.ensures.entry in
    one_more c.self.inside.entries c.args.v _ c.args.times (omega arith)
    (sum ∙ ap (λ (a : Vector). at a c.args.v +ℤ c.args.times) (sym c.self.view_is)) w
    ∙ ap (λ (a : Vector). at a w +ℤ only_at c.args.v c.args.times w) c.self.view_is
