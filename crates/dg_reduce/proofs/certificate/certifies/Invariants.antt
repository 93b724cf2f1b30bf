use Rattle.dg_reduce.proofs.Common.{at, CoversOff}
use Rattle.dg_reduce.proofs.certificate.certifies.Given as goal

abbrev pub invariant-loop-v : goal.invariant-loop-v
invariant-loop-v l = CoversOff l.v l.q (at l.chips) l.held
