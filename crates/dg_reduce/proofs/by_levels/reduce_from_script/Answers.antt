use Rattle.dg_reduce.proofs.Common.{◌≡◌, ℕ, ◌+◌, ◌*◌, ◌<◌, ◌≤◌, arith, sym, ◌∙◌, ints, ◌+ℤ◌, unsigned_abs, IsReduced, reduced-cong, fired-cong, at}
use Rattle.dg_reduce.proofs.Joined.{IsContinued, continued, continued_near}
use Rattle.dg_reduce.proofs.Outcome.{reduction_within}
use Rattle.dg_reduce.proofs.by_levels.reduce_from_script.Goals as goal
use Rattle.dg_reduce.proofs.by_levels.reduce_from_script.Goals.{After-reduce_by_levels-2, After-fired_by-2}

way : (c : After-reduce_by_levels-2) →
    IsContinued c.args.graph.now c.args.q (at c.args.chips.now) (at c.with_amount-left.result)
    (at c.args.script.now) (at c.reduce_by_levels-2.result.script)
way c = record {
  left = λ v inside other. c.with_amount-left.ensures.others v other ∙ c.fired_by.ensures.amounts v inside;
  reduced = reduced-cong c.args.graph.now c.args.q
      (at c.reduce_by_levels-2.result.divisor) _ c.reduce_by_levels-2.ensures.led
      c.reduce_by_levels-2.ensures.reduced;
}

near : (c : After-reduce_by_levels-2) → (v : ℕ) → v < c.args.graph.now.size →
    unsigned_abs (at c.args.script.now v +ℤ at c.reduce_by_levels-2.result.script v) ≤ 225 * (2000000 + 62)
near c = continued_near c.args.graph.now c.args.q (at c.args.chips.now) (at c.with_amount-left.result)
    (at c.args.script.now)
    (at c.reduce_by_levels-2.result.script) 2000000 c.size-size.ensures.graph c.requires.vertex c.requires.range (way c)
    c.requires.start c.reduce_by_levels-2.ensures.at_q

sum_is : (c : After-fired_by-2) → (v : ℕ) → v < c.args.graph.now.size →
    at c.plus-sum.result v ≡ at c.args.script.now v +ℤ at c.reduce_by_levels-2.result.script v
sum_is c v inside = c.plus-sum.ensures.entries v (omega (arith, c.requires.script))

reduced : (c : After-fired_by-2) →
    IsContinued c.args.graph.now c.args.q (at c.args.chips.now) (at c.with_amount-left.result)
    (at c.args.script.now) (at c.reduce_by_levels-2.result.script) →
    IsReduced c.args.graph.now c.args.q (at c.fired_by-2.result)
reduced c continues =
    reduced-cong c.args.graph.now c.args.q _ (at c.fired_by-2.result)
    (λ v inside. fired-cong c.args.graph.now (at c.args.chips.now)
    (λ w. at c.args.script.now w +ℤ at c.reduce_by_levels-2.result.script w) (at c.plus-sum.result) v inside
    (λ w below. sym (sum_is c w below)) ∙ sym (c.fired_by-2.ensures.amounts v inside))
    (continued c.args.graph.now c.args.q (at c.args.chips.now) (at c.with_amount-left.result) (at c.args.script.now)
    (at c.reduce_by_levels-2.result.script) continues)

pub plus-sum-requires-clause-limit : goal.plus-sum-requires-clause-limit
plus-sum-requires-clause-limit c = λ v below.
    let close : unsigned_abs (at c.args.script.now v +ℤ at c.reduce_by_levels-2.result.script v)
    ≤ 225 * (2000000 + 62) =
    near (goal.at.plus-sum-requires-clause-limit c).After-reduce_by_levels-2 v (omega (arith, c.requires.script)) in
    omega arith

pub returns : goal.returns
returns c =
    reduction_within c.args.graph.now c.args.q (at c.args.chips.now) 2000000 451000000 _ c.size-size.ensures.graph
    c.requires.vertex c.requires.range (omega arith, omega arith)
    (reduced (goal.at.returns c).After-fired_by-2 (way (goal.at.returns c).After-reduce_by_levels-2))
    c.fired_by-2.ensures.amounts
    (let own : at c.plus-sum.result c.args.q
    ≡ at c.args.script.now c.args.q +ℤ at c.reduce_by_levels-2.result.script c.args.q =
    sum_is (goal.at.returns c).After-fired_by-2 c.args.q c.requires.vertex in
    omega (arith, ints, c.requires.start, c.reduce_by_levels-2.ensures.at_q))
    (omega arith)
