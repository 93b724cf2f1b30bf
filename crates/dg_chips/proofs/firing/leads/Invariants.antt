use Rattle.dg_chips.proofs.Common.{◌≡◌, ℕ, ◌<◌, slice_index_or, pos, fired, at}
use Rattle.dg_chips.proofs.firing.leads.Given as goal

abbrev pub invariant-loop-v : goal.invariant-loop-v
invariant-loop-v l = (u : ℕ) → u < l.v →
    at l.to u ≡ fired l.graph (at l.from) (λ w. slice_index_or l.lendings w (pos 0)) u
