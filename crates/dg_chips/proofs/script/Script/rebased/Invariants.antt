use Rattle.dg_chips.proofs.Common.{◌+ℤ◌, ◌-ℤ◌, at}
use Rattle.dg_chips.proofs.VectorLaws.{IsFilled}
use Rattle.dg_chips.proofs.script.Script.rebased.Given as goal

abbrev pub invariant-loop-v : goal.invariant-loop-v
invariant-loop-v l = IsFilled l.entries l.v (λ w. at l.self w -ℤ at l.drift w +ℤ at l.drift l.q)
