use Rattle.dg_chips.specs.Vector.{at}
use Rattle.dg_chips.proofs.VectorLaws.{IsFilled}
use Rattle.dg_abi.proofs.rows.in_64_bits.Given as goal

abbrev pub invariant-loop-v : goal.invariant-loop-v
invariant-loop-v l = IsFilled l.narrow l.v (at l.amounts)
