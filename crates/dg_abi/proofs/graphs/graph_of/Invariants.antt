use Rattle.std.proofs.Common.{◌≡◌, ℕ, ◌<◌, length, []}
use Rattle.std.specs.List.{slice_index_or}
use Rattle.dg_abi.specs.Calls.{item_of}
use Rattle.dg_abi.proofs.graphs.graph_of.Given as goal

abbrev pub invariant-loop-i : goal.invariant-loop-i
invariant-loop-i l = record {
  size : length l.items ≡ 120;
  same : (j : ℕ) → j < l.i → slice_index_or l.items j (0, 0, 0) ≡ item_of (slice_index_or l.edges j []);
}
