use Rattle.dg_reduce.proofs.Common.{ℕ, ◌<◌, slice_index, AreLevelsReached}
use Rattle.dg_reduce.proofs.levels.with_next_level.Given as goal

abbrev pub invariant-loop-v : goal.invariant-loop-v
invariant-loop-v l = (q : ℕ) → q < l.graph.size → AreLevelsReached l.graph q l.level 0 (slice_index l.levels) →
    AreLevelsReached l.graph q l.level l.v (slice_index l.reached)
