use Rattle.dg_chips.proofs.Common.{◌-ℤ◌, at}
use Rattle.dg_chips.proofs.VectorLaws.{IsFilled}
use Rattle.dg_chips.proofs.wide.Wide.minus.Given as goal

abbrev pub invariant-loop-v : goal.invariant-loop-v
invariant-loop-v l = IsFilled l.amounts l.v (λ w. at l.self w -ℤ at l.divisor w)
