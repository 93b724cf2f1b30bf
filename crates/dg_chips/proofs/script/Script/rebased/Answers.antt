-- The machine's number is the sum, which an entry holds.
use Rattle.dg_chips.proofs.Common.{◌≡◌, ◌≤◌, ◌∙◌, ap, arith, w32, w64, to_z, of_z, ℤ, unsigned_abs, ◌-ℤ◌, ◌+ℤ◌, at}
use Rattle.dg_chips.proofs.FlowLaws.{held_shift, narrow_held}
use Rattle.dg_chips.proofs.VectorLaws.{filled_more}
use Rattle.dg_chips.proofs.script.Script.rebased.Goals as goal
use Rattle.dg_chips.proofs.script.Script.rebased.Goals.{After-get-in-loop-v-2}

abbrev wanted : After-get-in-loop-v-2 → ℤ
wanted c = at c.args.self.now c.loop-v.v -ℤ at c.args.drift.now c.loop-v.v +ℤ at c.args.drift.now c.args.q

near : (c : After-get-in-loop-v-2) → unsigned_abs (wanted c) ≤ 1000000000
near c = c.requires.limit c.loop-v.v (omega arith)

sum : (c : After-get-in-loop-v-2) → to_z w64 (of_z w64 (to_z w64 (of_z w64 (
    to_z w64 (of_z w64 c.get.result) -ℤ to_z w64 (of_z w64 c.get-in-loop-v.result)))
    +ℤ to_z w64 (of_z w64 c.get-in-loop-v-2.result))) ≡ wanted c
sum c = held_shift c.get.result c.get-in-loop-v.result c.get-in-loop-v-2.result (omega arith) (omega arith) (omega arith)
    ∙ cc (c.get.ensures.entry, c.get-in-loop-v.ensures.entry, c.get-in-loop-v-2.ensures.entry)

pub overflow_cast-entries : goal.overflow_cast-entries
overflow_cast-entries c = rw (sum c) (narrow_held (wanted c) (near c)).0

pub loop-v-preserved : goal.loop-v-preserved
loop-v-preserved c =
    let told = ap (λ (z : ℤ). to_z w32 (of_z w32 z)) (sum c) in
    filled_more _ _ _ _ (omega arith) (told ∙ (narrow_held (wanted c) (near c)).1) c.loop-v.invariant
