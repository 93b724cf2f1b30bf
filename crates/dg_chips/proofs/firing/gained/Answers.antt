use Rattle.dg_chips.proofs.Common.{◌≡◌, ℕ, ◌*◌, arith, refl, ap, w64, ◌∙◌, to_z, slice_index_or, ints, ℤ, pos, ◌*ℤ◌, ◌+ℤ◌, edges_between, valence, within_abs, abs-add, sum_below-more}
use Rattle.dg_chips.proofs.FlowLaws.{carried_held, held, gain-row}
use Rattle.dg_chips.proofs.firing.gained.Goals as goal

pub overflow_add-sum : goal.overflow_add-sum
overflow_add-sum c =
    let (value, small) =
    carried_held (slice_index_or c.row-row.result.now c.loop-w.w 0)
    (slice_index_or c.args.lendings.now c.loop-w.w (pos 0)) c.carried-sum.result
    (c.requires.lendings c.loop-w.w) c.carried-sum.ensures.product c.carried-sum.ensures.limit in
    let limit = abs-add (to_z w64 c.loop-w.sum-bits) c.carried-sum.result
    (25500000000000000 * c.loop-w.w) 25500000000000000 c.loop-w.invariant.limit small in
    rw ((held c.carried-sum.result (omega arith)).1)
    (held (to_z w64 c.loop-w.sum-bits +ℤ c.carried-sum.result) (omega arith)).0

pub loop-w-preserved : goal.loop-w-preserved
loop-w-preserved c =
    let (value, small) =
    carried_held (slice_index_or c.row-row.result.now c.loop-w.w 0)
    (slice_index_or c.args.lendings.now c.loop-w.w (pos 0)) c.carried-sum.result
    (c.requires.lendings c.loop-w.w) c.carried-sum.ensures.product c.carried-sum.ensures.limit in
    let limit = abs-add (to_z w64 c.loop-w.sum-bits) c.carried-sum.result
    (25500000000000000 * c.loop-w.w) 25500000000000000 c.loop-w.invariant.limit small in
    let each : ℤ = slice_index_or c.args.lendings.now c.loop-w.w (pos 0) in
    let last : c.carried-sum.result ≡ pos (edges_between c.args.graph.now c.args.v c.loop-w.w) *ℤ each =
    value ∙ ap (λ (k : ℕ). pos k *ℤ each) (c.row-row.ensures c.loop-w.w) in
    rw (
      (held c.carried-sum.result (omega arith)).1,
      (held (to_z w64 c.loop-w.sum-bits +ℤ c.carried-sum.result) (omega arith)).1,
    ) (record {
      sum = sum_below-more c.loop-w.w
          (λ u. pos (edges_between c.args.graph.now c.args.v u) *ℤ slice_index_or c.args.lendings.now u (pos 0))
          (to_z w64 c.loop-w.sum-bits) c.carried-sum.result _ c.loop-w.invariant.sum last refl;
      limit = omega arith;
    })

pub returns-clause-gain : goal.returns-clause-gain
returns-clause-gain c =
    let here : ℤ = slice_index_or c.args.lendings.now c.args.v (pos 0) in
    let (value, small) =
    carried_held c.valence.result here c.carried.result
    (c.requires.lendings c.args.v) c.carried.ensures.product c.carried.ensures.limit in
    let lent : c.carried.result ≡ pos (valence c.args.graph.now c.args.v) *ℤ here =
    value ∙ ap (λ (k : ℕ). pos k *ℤ here) c.valence.ensures in
    let (low, high) = within_abs c.carried.result 25500000000000000 small in
    let (low', high') = within_abs (to_z w64 c.loop-w.sum-bits)
    (25500000000000000 * c.loop-w.w) c.loop-w.invariant.limit in
    omega (
      arith,
      ints,
      gain-row c.args.graph.now
          (λ w. slice_index_or c.args.lendings.now w (pos 0)) c.args.v c.loop-w.w c.size-size.ensures.graph.multigraph
          (omega arith),
    )
