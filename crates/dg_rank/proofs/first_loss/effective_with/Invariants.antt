use Rattle.dg_rank.proofs.Common.{◌≡◌, ℕ, ◌<◌, ◌≤◌, amounts_of_trial, at}
use Rattle.std.proofs.Math.IntN.{◌+ℤ◌}
use Rattle.dg_rank.proofs.first_loss.effective_with.Given as goal

abbrev pub invariant-loop-v : goal.invariant-loop-v
invariant-loop-v l = record {
  size : l.left.size ≡ l.graph.size;
  before : (u : ℕ) → u < l.v → at l.left u ≡ at l.initial.left u +ℤ amounts_of_trial l.trial u;
  after : (u : ℕ) → l.v ≤ u → u < l.graph.size → at l.left u ≡ at l.initial.left u;
}
