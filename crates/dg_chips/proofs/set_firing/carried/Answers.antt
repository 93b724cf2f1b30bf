use Rattle.dg_chips.proofs.Common.{◌≡◌, ◌≤◌, ◌^◌, ℕ, FitsSigned, arith, w128, unsigned_abs, ℤ, pos, ◌*ℤ◌, to_z, of_z}
use Rattle.dg_chips.proofs.FlowLaws.{product_limit, wide_held}
use Rattle.dg_chips.proofs.set_firing.carried.Goals as goal

product : (edges : ℕ) (from each : ℤ) → from ≡ pos edges → edges ≤ 63 → unsigned_abs each ≤ 2 ^ 120 →
    FitsSigned w128 (to_z w128 (of_z w128 from) *ℤ to_z w128 (of_z w128 each))
    × (to_z w128 (of_z w128 (to_z w128 (of_z w128 from) *ℤ to_z w128 (of_z w128 each))) ≡ pos edges *ℤ each)
product edges from each same few small =
    let limit = product_limit edges 63 each (2 ^ 120) few small in
    rw (same, (wide_held (pos edges) (omega arith)).1, (wide_held each (omega arith)).1)
    (wide_held (pos edges *ℤ each) (omega arith))

pub overflow_mul-result : goal.overflow_mul-result
overflow_mul-result c =
    (product c.args.edges c.from.result c.args.each c.from.ensures c.requires.few c.requires.each).0

pub returns-clause-product : goal.returns-clause-product
returns-clause-product c =
    (product c.args.edges c.from.result c.args.each c.from.ensures c.requires.few c.requires.each).1

pub returns-clause-limit : goal.returns-clause-limit
returns-clause-limit c =
    rw (product c.args.edges c.from.result c.args.each c.from.ensures c.requires.few c.requires.each).1
    (product_limit c.args.edges 63 c.args.each (2 ^ 120) c.requires.few c.requires.each)
