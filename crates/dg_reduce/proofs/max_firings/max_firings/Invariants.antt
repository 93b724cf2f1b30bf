use Rattle.dg_reduce.proofs.Common.{in_set, at}
use Rattle.dg_reduce.proofs.Most.{IsLeast}
use Rattle.dg_reduce.proofs.max_firings.max_firings.Given as goal

abbrev pub invariant-loop-v : goal.invariant-loop-v
invariant-loop-v l = IsLeast l.graph (at l.chips) (in_set l.set) l.v l.most
