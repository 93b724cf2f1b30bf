use Rattle.dg_reduce.proofs.Common.{slice_index, AreLevelsReached}
use Rattle.dg_reduce.proofs.levels.levels_from.Given as goal

abbrev pub invariant-loop-level : goal.invariant-loop-level
invariant-loop-level l = AreLevelsReached l.graph l.q l.level 0 (slice_index l.levels)
