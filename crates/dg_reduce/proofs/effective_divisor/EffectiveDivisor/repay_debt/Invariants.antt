use Rattle.dg_reduce.proofs.Common.{Amounts, weights, weight_of, distance_from, at}
use Rattle.dg_reduce.specs.Rests.{IsUnburntRest}
use Rattle.dg_reduce.proofs.DebtSteps.{IsRepaying}
use Rattle.dg_reduce.proofs.effective_divisor.EffectiveDivisor.repay_debt.Given as goal

abbrev pub invariant-paying : goal.invariant-paying
invariant-paying l = record {
  repaying : IsRepaying l.graph l.v l.fn.self l.self;
  left : (D : Amounts) × IsUnburntRest l.graph l.v D l.rest;
}

abbrev pub decreases-paying : goal.decreases-paying
decreases-paying l = weight_of l.graph (weights (distance_from l.graph l.v)) (at l.self)
