use Rattle.dg_rank.proofs.Common.{ℕ, ◌<◌, ◌≤◌, slice_index}
use Rattle.dg_rank.proofs.folding.costs_at_most_a_dollar.Given as goal

abbrev pub invariant-loop-t : goal.invariant-loop-t
invariant-loop-t l = record { cheap : (u : ℕ) → u < l.t → slice_index l.prices u ≤ u }
