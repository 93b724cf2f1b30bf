use Rattle.dg_reduce.proofs.Common.{weights, distance_from, weight_of, at}
use Rattle.dg_reduce.proofs.BurningSteps.{IsBurningDown}
use Rattle.dg_reduce.proofs.burning_down.fire_unburnt_sets.Given as goal

abbrev pub invariant-burning : goal.invariant-burning
invariant-burning l = IsBurningDown l.graph l.q l.walk l.now

abbrev pub decreases-burning : goal.decreases-burning
decreases-burning l = weight_of l.graph (weights (distance_from l.graph l.q)) (at l.now.chips)
