use Rattle.std.proofs.Common.{◌≡◌, ℕ, ◌+◌, ◌<◌, ◌≤◌, ◌⊎◌, length}
use Rattle.std.specs.List.{slice_index_or}
use Rattle.dg_abi.proofs.rows.put.Given as goal

abbrev pub invariant-loop-v : goal.invariant-loop-v
invariant-loop-v g l = record {
  length : length l.row ≡ length l.initial.row;
  holds : (z : g.row.T.Denot) (w : ℕ) → w < l.v → slice_index_or l.row (l.start + w) z ≡ slice_index_or l.numbers w z;
  elsewhere : (z : g.row.T.Denot) (k : ℕ) → (k < l.start) ⊎ (l.start + l.v ≤ k) →
      slice_index_or l.row k z ≡ slice_index_or l.initial.row k z;
}
