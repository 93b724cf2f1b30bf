use Rattle.dg_rank.proofs.Common.{◌≡◌, ℕ, ◌<◌, true, in_set, edges_between}
use Rattle.dg_rank.proofs.folding.neighbours.Given as goal

abbrev pub invariant-loop-w : goal.invariant-loop-w
invariant-loop-w l = record {
  part : (u : ℕ) → in_set l.set u ≡ true → 0 < edges_between l.graph l.v u;
  all : (u : ℕ) → u < l.w → 0 < edges_between l.graph l.v u → in_set l.set u ≡ true;
}
