use Rattle.dg_reduce.proofs.Common.{take, arith, IsLeastBurningOrder, IsGreatestLegal, at, AreCapped, same-order, rest_is_free, none_reduced, reduced_none, unburnt_member}
use Rattle.dg_graph.specs.Sets.{in_set}
use Rattle.dg_reduce.proofs.effective_divisor.EffectiveDivisor.rest.Goals as goal
use Rattle.dg_reduce.proofs.effective_divisor.EffectiveDivisor.rest.Goals.{After-burn_counted-counted}

in_order : (c : After-burn_counted-counted) → IsLeastBurningOrder c.args.graph.now c.args.v (at c.args.self.now)
    (take c.burn_counted-counted.result.burnt.burnt c.burn_counted-counted.result.burnt.order)
in_order c =
    let held : AreCapped c.args.graph.now.size (at c.args.self.now) c.held.result = rw c.requires.size at c.held.ensures in
    same-order c.args.graph.now c.args.v
    (at c.args.self.now) c.held.result _ c.size-size.ensures.graph c.requires.no_debt
    held c.burn_counted-counted.ensures.order

pub returns-then-counted-eq0 : goal.returns-then-counted-eq0
returns-then-counted-eq0 c =
    let d = goal.at.returns-then-counted-eq0 c in
    none_reduced _ _ _ _ _ c.requires.no_debt
    (in_order d.After-burn_counted-counted) c.burn_counted-counted.ensures.left
    c.if-counted-eq0.true

pub returns : goal.returns
returns c =
    let d = goal.at.returns c in
    let order = in_order d.After-burn_counted-counted in
    let burnt = c.burn_counted-counted.result.burnt in
    let free : IsGreatestLegal c.args.graph.now c.args.v (at c.args.self.now) (in_set burnt.unburnt) =
    rest_is_free c.args.graph.now c.args.v (at c.args.self.now) (take burnt.burnt burnt.order) burnt.unburnt
    c.size-size.ensures.graph.multigraph c.requires.vertex c.requires.no_debt order c.burn_counted-counted.ensures.left
    in
    record {
      free = free.free;
      member =
          unburnt_member c.args.graph.now c.args.v (at c.args.self.now) (take burnt.burnt burnt.order) burnt.unburnt
          c.requires.no_debt order free (
            none_reduced _ _ _ _ _ c.requires.no_debt order c.burn_counted-counted.ensures.left,
            reduced_none _ _ _ _ _ order c.burn_counted-counted.ensures.left,
          )
          (omega arith);
      gains = c.rest_gains.ensures.gains;
      small = c.rest_gains.ensures.few;
    }
