use Rattle.dg_reduce.proofs.Common.{◌≡◌, ℕ, ◌*◌, ◌+◌, ◌<◌, ◌≤◌, slice_index, arith, ints, ◌-ℤ◌, unsigned_abs, fired, at}
use Rattle.dg_reduce.proofs.Cleared.{levels_cleared}
use Rattle.dg_reduce.proofs.Outcome.{script_near, relative_leads, reduction_within}
use Rattle.dg_reduce.proofs.by_levels.reduce_by_levels.Goals as goal
use Rattle.dg_reduce.proofs.by_levels.reduce_by_levels.Goals.{After-fire_unburnt_sets-walk, After-relative_to}

-- the script before its entry at q is taken off
leads : (c : After-fire_unburnt_sets-walk) → (v : ℕ) → v < c.args.graph.now.size →
    at c.fire_unburnt_sets-walk.result.chips v
    ≡ fired c.args.graph.now (at c.args.chips.now) (at c.fire_unburnt_sets-walk.result.script) v
leads c =
    let start : c.fire_unburnt_sets-walk.result.start ≡ c.args.chips.now = cc in
    λ v inside. rw (← start) (c.fire_unburnt_sets-walk.ensures.tied.led v inside)

near : (c : After-fire_unburnt_sets-walk) → (v : ℕ) → v < c.args.graph.now.size →
    unsigned_abs (at c.fire_unburnt_sets-walk.result.script v -ℤ at c.fire_unburnt_sets-walk.result.script c.args.q)
    ≤ 225 * (2000000 + 62)
near c =
    script_near c.args.graph.now c.args.q (at c.args.chips.now) (at c.fire_unburnt_sets-walk.result.chips)
    (at c.fire_unburnt_sets-walk.result.script)
    2000000 c.size-size.ensures.graph c.requires.vertex c.requires.range c.fire_unburnt_sets-walk.ensures.reduced (leads c)

relative_is : (c : After-relative_to) → (v : ℕ) → v < c.args.graph.now.size →
    at c.relative_to.result v
    ≡ at c.fire_unburnt_sets-walk.result.script v -ℤ at c.fire_unburnt_sets-walk.result.script c.args.q
relative_is c v inside = c.relative_to.ensures.entries v (omega (arith, c.fire_unburnt_sets-walk.ensures.tied.script_size))

pub fire_unburnt_sets-walk-requires-clause-cleared : goal.fire_unburnt_sets-walk-requires-clause-cleared
fire_unburnt_sets-walk-requires-clause-cleared c =
    levels_cleared c.args.graph.now c.args.q (slice_index c.levels_from-levels.result) c.clear_levels-cleared.result
    c.levels_from-levels.ensures c.clear_levels-cleared.ensures.cleared

pub relative_to-requires-clause-limit : goal.relative_to-requires-clause-limit
relative_to-requires-clause-limit c = λ v below.
    let close : unsigned_abs (at c.fire_unburnt_sets-walk.result.script v -ℤ at c.fire_unburnt_sets-walk.result.script c.args.q)
    ≤ 225 * (2000000 + 62) =
    near (goal.at.relative_to-requires-clause-limit c).After-fire_unburnt_sets-walk v
    (omega (arith, c.fire_unburnt_sets-walk.ensures.tied.script_size)) in
    omega arith

pub returns : goal.returns
returns c =
    reduction_within c.args.graph.now c.args.q (at c.args.chips.now) 2000000 451000000 _ c.size-size.ensures.graph
    c.requires.vertex c.requires.range (omega arith, omega arith) c.fire_unburnt_sets-walk.ensures.reduced
    (relative_leads c.args.graph.now c.args.q (at c.args.chips.now) (at c.fire_unburnt_sets-walk.result.chips)
    (at c.fire_unburnt_sets-walk.result.script) (at c.relative_to.result)
    (leads (goal.at.returns c).After-fire_unburnt_sets-walk)
    (relative_is (goal.at.returns c).After-relative_to))
    (let own : at c.relative_to.result c.args.q
    ≡ at c.fire_unburnt_sets-walk.result.script c.args.q -ℤ at c.fire_unburnt_sets-walk.result.script c.args.q =
    relative_is (goal.at.returns c).After-relative_to c.args.q c.requires.vertex in
    omega (arith, ints))
    (omega arith)
