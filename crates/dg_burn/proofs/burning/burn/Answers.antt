use Rattle.dg_burn.proofs.Common.{take, at}
use Rattle.dg_burn.proofs.Capped.{same-order}
use Rattle.dg_burn.proofs.Told.{rest_is_free, none_reduced, reduced_none}
use Rattle.dg_burn.proofs.burning.burn.Goals as goal

pub returns-clause-order : goal.returns-clause-order
returns-clause-order c =
    same-order c.args.graph.now c.args.q
    (at c.args.chips.now) c.capped_amounts.result _ c.size-size.ensures.graph c.requires.no_debt
    (rw c.requires.size at c.capped_amounts.ensures) c.burn_counted.ensures.order

pub returns-clause-unburnt : goal.returns-clause-unburnt
returns-clause-unburnt c =
    rest_is_free c.args.graph.now c.args.q (at c.args.chips.now)
    (take c.burn_counted.result.burnt.burnt c.burn_counted.result.burnt.order) c.burn_counted.result.burnt.unburnt
    c.size-size.ensures.graph.multigraph c.requires.vertex c.requires.no_debt
    (returns-clause-order c) c.burn_counted.ensures.left

pub returns-clause-reduced : goal.returns-clause-reduced
returns-clause-reduced c = (
  none_reduced _ _ _ _ _ c.requires.no_debt (returns-clause-order c) c.burn_counted.ensures.left,
  reduced_none _ _ _ _ _ (returns-clause-order c) c.burn_counted.ensures.left,
)
