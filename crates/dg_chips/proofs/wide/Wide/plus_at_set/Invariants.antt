use Rattle.dg_chips.proofs.Common.{◌+ℤ◌, indicator, multiple, in_set, at}
use Rattle.dg_chips.proofs.VectorLaws.{IsFilled}
use Rattle.dg_chips.proofs.wide.Wide.plus_at_set.Given as goal

abbrev pub invariant-loop-v : goal.invariant-loop-v
invariant-loop-v l = IsFilled l.amounts l.v (λ w. at l.self w +ℤ multiple l.times (indicator (in_set l.set)) w)
