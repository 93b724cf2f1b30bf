use Rattle.dg_reduce.proofs.Common.{◌≡◌, ◌≤◌, ◌+◌, IsCleared}
use Rattle.std.specs.Prelude.{slice_index}
use Rattle.dg_reduce.proofs.clearing.clear_levels.Given as goal

abbrev pub invariant-levels : goal.invariant-levels
invariant-levels l = record {
  few : l.level ≤ 15;
  cleared : IsCleared l.graph (slice_index l.levels) (l.level + 1) l.walk;
  begun : l.walk.start ≡ l.chips;
}

abbrev pub decreases-levels : goal.decreases-levels
decreases-levels l = l.level
