use Rattle.dg_reduce.proofs.Common.{◌≡◌, ℕ, ◌<◌, ◌≤◌, false, nat_lt, in_set}
use Rattle.std.specs.Prelude.{slice_index}
use Rattle.dg_reduce.proofs.levels.nearer_set.Given as goal

abbrev pub invariant-loop-v : goal.invariant-loop-v
invariant-loop-v l = record {
  same : (u : ℕ) → u < l.v → in_set l.set u ≡ nat_lt (slice_index l.levels u) l.level;
  rest : (u : ℕ) → l.v ≤ u → in_set l.set u ≡ false;
}
