use Rattle.dg_chips.proofs.Common.{◌+ℤ◌, at}
use Rattle.dg_chips.proofs.VectorLaws.{IsFilled}
use Rattle.dg_chips.proofs.script.Script.plus.Given as goal

abbrev pub invariant-loop-v : goal.invariant-loop-v
invariant-loop-v l = IsFilled l.entries l.v (λ w. at l.self w +ℤ at l.other w)
