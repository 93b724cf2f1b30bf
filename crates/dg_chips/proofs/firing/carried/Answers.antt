use Rattle.dg_chips.proofs.Common.{◌≡◌, ◌≤◌, ℕ, FitsSigned, arith, w64, unsigned_abs, ℤ, pos, ◌*ℤ◌, to_z, of_z}
use Rattle.dg_chips.proofs.FlowLaws.{product_limit, held}
use Rattle.dg_chips.proofs.firing.carried.Goals as goal

product : (edges : ℕ) (from each : ℤ) → from ≡ pos edges → edges ≤ 255 → unsigned_abs each ≤ 100000000000000 →
    FitsSigned w64 (to_z w64 (of_z w64 from) *ℤ to_z w64 (of_z w64 each))
    × (to_z w64 (of_z w64 (to_z w64 (of_z w64 from) *ℤ to_z w64 (of_z w64 each))) ≡ pos edges *ℤ each)
product edges from each same few small =
    let limit = product_limit edges 255 each (unsigned_abs each) few (omega arith) in
    rw (same, (held (pos edges) (omega arith)).1, (held each (omega arith)).1) (held (pos edges *ℤ each) (omega arith))

pub overflow_mul-result : goal.overflow_mul-result
overflow_mul-result c = (product c.args.edges c.from.result c.args.each c.from.ensures (omega arith) c.requires).0

pub returns-clause-product : goal.returns-clause-product
returns-clause-product c = (product c.args.edges c.from.result c.args.each c.from.ensures (omega arith) c.requires).1

pub returns-clause-limit : goal.returns-clause-limit
returns-clause-limit c =
    rw (product c.args.edges c.from.result c.args.each c.from.ensures (omega arith) c.requires).1
    (product_limit c.args.edges 255 c.args.each (unsigned_abs c.args.each) (omega arith) (omega arith))
