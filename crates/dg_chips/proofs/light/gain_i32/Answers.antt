use Rattle.dg_chips.proofs.Common.{◌≡◌, ◌^◌, ◌<◌, arith, refl, w32, ◌+◌, ◌-◌, to_z, slice_index_or, unsigned_abs, ints, pos, ◌+ℤ◌, ◌*ℤ◌, sum_below, edges_between, valence, Amounts, within_abs, sum_below-more}
use Rattle.dg_chips.proofs.FlowLaws.{gain-row}
use Rattle.dg_chips.proofs.LightLaws.{small_held, light-valence, light-edges, light-flow, light-sum}
use Rattle.dg_chips.proofs.light.gain_i32.Goals as goal
use Rattle.dg_chips.proofs.light.gain_i32.Goals.{After-carried_i32-sum, After-carried_i32}

pub carried_i32-sum-requires : goal.carried_i32-sum-requires
carried_i32-sum-requires c =
    let s : Amounts = λ w. slice_index_or c.args.lendings.now w (pos 0) in
    let small : unsigned_abs (s c.loop-w.w) < 2 ^ 31 = omega (arith, c.requires.small c.loop-w.w) in
    rw ((small_held (s c.loop-w.w) small).1, c.row-row.ensures c.loop-w.w) (
    light-edges c.args.graph.now s c.args.v c.loop-w.w c.loop-w.w c.size-size.ensures.graph c.requires.light
    )

-- what the edges to the next vertex carry
carries : (c : After-carried_i32-sum) →
    (c.carried_i32-sum.result
    ≡ pos (edges_between c.args.graph.now c.args.v c.loop-w.w) *ℤ slice_index_or c.args.lendings.now c.loop-w.w (pos 0))
    × (unsigned_abs c.carried_i32-sum.result < 2 ^ 30)
carries c =
    let s : Amounts = λ w. slice_index_or c.args.lendings.now w (pos 0) in
    light-flow (edges_between c.args.graph.now c.args.v c.loop-w.w) _ (s c.loop-w.w) c.carried_i32-sum.result
    (light-edges c.args.graph.now s c.args.v c.loop-w.w c.loop-w.w c.size-size.ensures.graph c.requires.light)
    (omega (arith, c.requires.small c.loop-w.w)) (c.row-row.ensures c.loop-w.w) c.carried_i32-sum.ensures

pub overflow_add-sum : goal.overflow_add-sum
overflow_add-sum c =
    let d = goal.at.overflow_add-sum c in
    let (value, few) = carries d.After-carried_i32-sum in
    let so_far = light-sum c.args.graph.now (λ w. slice_index_or c.args.lendings.now w (pos 0)) c.args.v c.loop-w.w
    c.size-size.ensures.graph c.requires.light in
    let (low, high) = within_abs c.carried_i32-sum.result (2 ^ 30) (omega arith) in
    let (low', high') = within_abs (to_z w32 c.loop-w.sum-bits) (2 ^ 30) (rw c.loop-w.invariant (omega arith)) in
    rw ((small_held c.carried_i32-sum.result (omega arith)).1) (omega (arith, ints))

pub loop-w-preserved : goal.loop-w-preserved
loop-w-preserved c =
    let d = goal.at.loop-w-preserved c in
    let s : Amounts = λ w. slice_index_or c.args.lendings.now w (pos 0) in
    let (value, few) = carries d.After-carried_i32-sum in
    let sum : to_z w32 c.loop-w.sum-bits +ℤ c.carried_i32-sum.result
    ≡ sum_below (c.loop-w.w + 1) (λ u. pos (edges_between c.args.graph.now c.args.v u) *ℤ s u) =
    sum_below-more c.loop-w.w (λ u. pos (edges_between c.args.graph.now c.args.v u) *ℤ s u)
    (to_z w32 c.loop-w.sum-bits) c.carried_i32-sum.result _ c.loop-w.invariant value refl in
    let all = light-sum c.args.graph.now s c.args.v (c.loop-w.w + 1) c.size-size.ensures.graph c.requires.light in
    rw (
      (small_held c.carried_i32-sum.result (omega arith)).1,
      (small_held (to_z w32 c.loop-w.sum-bits +ℤ c.carried_i32-sum.result) (rw sum (omega arith))).1,
    ) sum

-- what the vertex lends itself, and all that it gets
lends : (c : After-carried_i32) →
    (c.carried_i32.result
    ≡ pos (valence c.args.graph.now c.args.v) *ℤ slice_index_or c.args.lendings.now c.args.v (pos 0))
    × (unsigned_abs c.carried_i32.result < 2 ^ 30) × (unsigned_abs (to_z w32 c.loop-w.sum-bits) < 2 ^ 30)
lends c =
    let s : Amounts = λ w. slice_index_or c.args.lendings.now w (pos 0) in
    let (value, few) = light-flow (valence c.args.graph.now c.args.v) c.valence.result
    (s c.args.v) c.carried_i32.result
    (light-valence c.args.graph.now s c.args.v c.args.v c.requires.light)
    (omega (arith, c.requires.small c.args.v)) c.valence.ensures c.carried_i32.ensures in
    let all = light-sum c.args.graph.now s c.args.v c.loop-w.w c.size-size.ensures.graph c.requires.light in
    (value, few, rw c.loop-w.invariant all)

pub overflow_sub-result : goal.overflow_sub-result
overflow_sub-result c =
    let d = goal.at.overflow_sub-result c in
    let (value, few, sum) = lends d.After-carried_i32 in
    let (low, high) = within_abs c.carried_i32.result (2 ^ 30 - 1) (omega arith) in
    let (low', high') = within_abs (to_z w32 c.loop-w.sum-bits) (2 ^ 30 - 1) (omega arith) in
    rw ((small_held c.carried_i32.result (omega arith)).1) (omega (arith, ints))

pub returns : goal.returns
returns c =
    let d = goal.at.returns c in
    let (value, few, sum) = lends d.After-carried_i32 in
    let (low, high) = within_abs c.carried_i32.result (2 ^ 30 - 1) (omega arith) in
    let (low', high') = within_abs (to_z w32 c.loop-w.sum-bits) (2 ^ 30 - 1) (omega arith) in
    rw ((small_held c.carried_i32.result (omega arith)).1) (
    omega (
      arith,
      ints,
      gain-row c.args.graph.now (λ w. slice_index_or c.args.lendings.now w (pos 0)) c.args.v c.loop-w.w
          c.size-size.ensures.graph.multigraph (omega (arith, c.size-size.ensures.graph.few)),
    )
    )
