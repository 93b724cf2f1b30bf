-- The machine's number is the difference, which an entry holds.
use Rattle.dg_chips.proofs.Common.{◌≡◌, ◌≤◌, ◌∙◌, ap, arith, ints, w32, w128, to_z, of_z, ℤ, unsigned_abs, ◌-ℤ◌, at}
use Rattle.dg_chips.proofs.FlowLaws.{narrow_held, wide_held}
use Rattle.dg_chips.proofs.VectorLaws.{filled_more}
use Rattle.dg_chips.proofs.script.Script.relative_to.Goals as goal
use Rattle.dg_chips.proofs.script.Script.relative_to.Goals.{After-get-in-loop-v}

abbrev wanted : After-get-in-loop-v → ℤ
wanted c = at c.args.lendings.now c.loop-v.v -ℤ at c.args.lendings.now c.args.q

near : (c : After-get-in-loop-v) → unsigned_abs (wanted c) ≤ 1000000000
near c = c.requires.limit c.loop-v.v (omega arith)

difference : (c : After-get-in-loop-v) →
    to_z w128 (of_z w128 c.get.result) -ℤ to_z w128 (of_z w128 c.get-in-loop-v.result) ≡ wanted c
difference c =
    let first : to_z w128 (of_z w128 c.get.result) ≡ c.get.result = omega (arith, ints) in
    let second : to_z w128 (of_z w128 c.get-in-loop-v.result) ≡ c.get-in-loop-v.result = omega (arith, ints) in
    rw (first, second) (cc (c.get.ensures, c.get-in-loop-v.ensures))

sum : (c : After-get-in-loop-v) → to_z w128 (of_z w128 (
    to_z w128 (of_z w128 c.get.result) -ℤ to_z w128 (of_z w128 c.get-in-loop-v.result))) ≡ wanted c
sum c = let small = near c in rw (difference c) (wide_held (wanted c) (omega arith)).1

pub overflow_sub-entries : goal.overflow_sub-entries
overflow_sub-entries c = let small = near c in rw (difference c) (wide_held (wanted c) (omega arith)).0

pub overflow_cast-entries : goal.overflow_cast-entries
overflow_cast-entries c = rw (sum c) (narrow_held (wanted c) (near c)).0

pub loop-v-preserved : goal.loop-v-preserved
loop-v-preserved c =
    let told = ap (λ (z : ℤ). to_z w32 (of_z w32 z)) (sum c) in
    filled_more _ _ _ _ (omega arith) (told ∙ (narrow_held (wanted c) (near c)).1) c.loop-v.invariant
