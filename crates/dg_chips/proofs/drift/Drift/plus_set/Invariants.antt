use Rattle.dg_chips.proofs.Common.{◌+ℤ◌, indicator, in_set, at}
use Rattle.dg_chips.proofs.VectorLaws.{IsFilled}
use Rattle.dg_chips.proofs.drift.Drift.plus_set.Given as goal

abbrev pub invariant-loop-v : goal.invariant-loop-v
invariant-loop-v l = IsFilled l.entries l.v (λ w. at l.self w +ℤ indicator (in_set l.set) w)
