use Rattle.dg_reduce.proofs.Common.{◌≤◌, ◌*◌, ◌^◌, arith, unsigned_abs, ints, at}
use Rattle.dg_graph.specs.Sets.{in_set}
use Rattle.dg_reduce.specs.Rests.{IsUnburntRest}
use Rattle.dg_reduce.proofs.DebtSteps.{repaying-start, repaying-done, repaying-lost}
use Rattle.dg_reduce.proofs.FormSteps.{rest_again, once_more, once_falls, once_limit}
use Rattle.dg_reduce.proofs.effective_divisor.EffectiveDivisor.repay_debt.Goals as goal
use Rattle.dg_reduce.proofs.effective_divisor.EffectiveDivisor.repay_debt.Goals.{After-fire, then-not-can_fire+in-Some-rest, else-not-can_fire}

lends : (c : After-fire) → IsUnburntRest c.args.graph.now c.args.v (at c.paying.self) c.if-not-can_fire.rest
lends c =
    elim c.if-not-can_fire.branch [
      | then-not-can_fire+in-Some-rest w ↦ rw w.rest-is w.in-Some-rest.ensures
      | else-not-can_fire w ↦ rw w.rest-is
          (rest_again c.args.graph.now c.args.v c.args.self.now c.paying.self c.paying.rest c.floor_off-floor.result
          c.size-size.ensures.graph c.paying.invariant.repaying c.paying.invariant.left c.floor_off-floor.ensures
          w.if-not-can_fire.ensures)
    ]

pub returns-in_default : goal.returns-in_default
returns-in_default c =
    repaying-lost c.args.graph.now c.args.v c.args.self.now c.args.self.now c.requires.vertex
    (repaying-start c.args.graph.now c.args.v c.args.self.now c.requires.size c.requires.no_debt) c.in_default.ensures
    c.requires.owes

pub paying-init : goal.paying-init
paying-init c = record {
  repaying = repaying-start c.args.graph.now c.args.v c.args.self.now c.requires.size c.requires.no_debt;
  left = (at c.args.self.now, c.in-Some.ensures);
}

pub returns-in_default-rest : goal.returns-in_default-rest
returns-in_default-rest c =
    repaying-lost c.args.graph.now c.args.v c.args.self.now c.paying.self c.requires.vertex c.paying.invariant.repaying
    c.in_default-rest.ensures (omega (arith, ints))

pub fire-requires-clause-range : goal.fire-requires-clause-range
fire-requires-clause-range c w inside =
    let small : unsigned_abs (at c.paying.self w) ≤ 17 * 2 ^ 26 =
    once_limit c.args.graph.now c.args.v c.args.self.now c.paying.self c.size-size.ensures.graph c.requires.vertex
    c.paying.invariant.repaying c.requires.range w inside in
    omega arith

pub can_fire-requires-clause-range : goal.can_fire-requires-clause-range
can_fire-requires-clause-range c w inside =
    let small : unsigned_abs (at c.paying.self w) ≤ 17 * 2 ^ 26 =
    once_limit c.args.graph.now c.args.v c.args.self.now c.paying.self c.size-size.ensures.graph c.requires.vertex
    c.paying.invariant.repaying c.requires.range w (rw c.paying.invariant.repaying.size at inside) in
    omega arith

pub paying-smaller : goal.paying-smaller
paying-smaller c =
    let rest = lends c in
    let (u, member) = rest.member in
    once_falls c.args.graph.now c.args.v
    (in_set c.if-not-can_fire.rest.set) c.args.self.now c.paying.self c.fire.new.self u
    c.size-size.ensures.graph c.requires.vertex c.paying.invariant.repaying rest.free member c.fire.ensures.fires

pub paying-preserved : goal.paying-preserved
paying-preserved c =
    let rest = lends c in
    record {
      repaying = once_more c.args.graph.now c.args.v
          (in_set c.if-not-can_fire.rest.set) c.args.self.now c.paying.self c.fire.new.self
          c.size-size.ensures.graph c.requires.vertex c.paying.invariant.repaying rest.free c.fire.ensures.size
          c.fire.ensures.fires;
      left = (at c.paying.self, rest);
    }

pub returns : goal.returns
returns c =
    repaying-done c.args.graph.now c.args.v c.args.self.now c.paying.self c.paying.invariant.repaying (omega (arith, ints))
