use Rattle.dg_graph.proofs.Common.{◌≡◌, ℕ, not, true, count_by, length, IsConnectedTo, is_in}
use Rattle.dg_theory.specs.Multigraph.{entry}
use Rattle.dg_graph.proofs.connected.is_connected.Given as goal

abbrev pub invariant-search : goal.invariant-search
invariant-search l = record {
  whole : length l.reached ≡ 16;
  start : is_in l.reached 0 ≡ true;
  joined : (v : ℕ) → is_in l.reached v ≡ true → IsConnectedTo l.size (entry l.table) 0 v;
}

abbrev pub decreases-search : goal.decreases-search
decreases-search l = count_by not l.reached
