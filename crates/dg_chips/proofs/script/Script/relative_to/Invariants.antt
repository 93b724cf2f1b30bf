use Rattle.dg_chips.proofs.Common.{◌-ℤ◌, at}
use Rattle.dg_chips.proofs.VectorLaws.{IsFilled}
use Rattle.dg_chips.proofs.script.Script.relative_to.Given as goal

abbrev pub invariant-loop-v : goal.invariant-loop-v
invariant-loop-v l = IsFilled l.entries l.v (λ w. at l.lendings w -ℤ at l.lendings l.q)
