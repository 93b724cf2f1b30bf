use Rattle.std.proofs.Common.{◌≡◌, ℕ, ◌≤◌}
use Rattle.std.specs.Int.RustNames.{unsigned_abs}
use Rattle.dg_chips.specs.Vector.{at}
use Rattle.dg_reduce_tests.proofs.reduce.random.blunt.Given as goal

abbrev pub invariant-loop-v : goal.invariant-loop-v
invariant-loop-v l = record {
  size : l.blunt.size ≡ l.graph.size;
  few : (w : ℕ) → unsigned_abs (at l.blunt w) ≤ 500000000;
}
