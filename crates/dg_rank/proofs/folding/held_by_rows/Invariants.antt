use Rattle.dg_rank.proofs.Common.{◌≡◌, ℕ, ◌<◌, true, false, pos, ◌≤ℤ◌, in_set, at}
use Rattle.dg_rank.specs.Folding.{worth}
use Rattle.dg_rank.proofs.folding.held_by_rows.Given as goal

abbrev pub invariant-loop-v : goal.invariant-loop-v
invariant-loop-v l = record {
  size : l.held.size ≡ l.graph.size;
  some : (u : ℕ) → pos 0 ≤ℤ at l.held u;
  few : (u : ℕ) → at l.held u ≤ℤ pos 1999000;
  unfolded : (u : ℕ) → u < l.v → in_set l.unfolded u ≡ true → at l.held u ≡ worth l.rows u 0;
  folded : (u : ℕ) → in_set l.unfolded u ≡ false → at l.held u ≡ pos 0;
}
