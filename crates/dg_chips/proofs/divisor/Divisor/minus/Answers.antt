-- The machine's number is the difference, which an amount holds.
use Rattle.dg_chips.proofs.Common.{◌≡◌, ℕ, ◌<◌, ◌≤◌, arith, below_more, unsigned_abs, ℤ, ◌-ℤ◌, ◌∙◌, ap, sym, subst, w32, w64, to_z, of_z, Vector, at}
use Rattle.dg_chips.proofs.DriftLaws.{held_difference}
use Rattle.dg_chips.proofs.FlowLaws.{narrow_held}
use Rattle.dg_chips.proofs.VectorLaws.{filled_more}
use Rattle.dg_chips.proofs.divisor.Divisor.minus.Goals as goal
use Rattle.dg_chips.proofs.divisor.Divisor.minus.Goals.{After-get-in-loop-v}

abbrev wanted : After-get-in-loop-v → ℤ
wanted c = at c.args.self.now c.loop-v.v -ℤ at c.args.other.now c.loop-v.v

difference : (c : After-get-in-loop-v) → to_z w64 (of_z w64 (
    to_z w64 (of_z w64 c.get.result) -ℤ to_z w64 (of_z w64 c.get-in-loop-v.result))) ≡ wanted c
difference c = held_difference c.get.result c.get-in-loop-v.result (omega arith) (omega arith)
    ∙ cc (c.get.ensures.amount, c.get-in-loop-v.ensures.amount)

pub loop-v-preserved : goal.loop-v-preserved
loop-v-preserved c =
    let here = (goal.at.loop-v-preserved c).After-get-in-loop-v in
    let told : c.unsigned_abs.result ≡ unsigned_abs (wanted here) =
    c.unsigned_abs.ensures.value ∙ ap unsigned_abs (difference here) in
    let near : unsigned_abs (wanted here) ≤ 1000000 = subst (λ (n : ℕ). n ≤ 1000000) told c.if-unsigned_abs-gt-MAX_AMOUNT.false in
    let kept = ap (λ (z : ℤ). to_z w32 (of_z w32 z)) (difference here) ∙ (narrow_held (wanted here) (omega arith)).1 in
    record {
      filled = filled_more _ _ _ _ (omega arith) kept c.loop-v.invariant.filled;
      near = below_more _ _ c.loop-v.invariant.near near;
    }

pub returns-then-unsigned_abs-gt-MAX_AMOUNT : goal.returns-then-unsigned_abs-gt-MAX_AMOUNT
returns-then-unsigned_abs-gt-MAX_AMOUNT c =
    let here = (goal.at.returns-then-unsigned_abs-gt-MAX_AMOUNT c).After-get-in-loop-v in
    let told : c.unsigned_abs.result ≡ unsigned_abs (wanted here) =
    c.unsigned_abs.ensures.value ∙ ap unsigned_abs (difference here) in (
      sym c.size.ensures.size ∙ c.if-size.false ∙ c.size-size.ensures.size,
      record {
        place = omega arith;
        past = subst (λ (n : ℕ). 1000000 < n) told c.if-unsigned_abs-gt-MAX_AMOUNT.true;
        least = c.loop-v.invariant.near;
      },
    )

pub from_array-requires : goal.from_array-requires
from_array-requires c = record {
  few = omega (arith, c.size-size.ensures.divisor.few);
  places = c.loop-v.invariant.filled.size;
  within = λ v below. rw (c.loop-v.invariant.filled.same v (omega arith)) (c.loop-v.invariant.near v (omega arith));
  inside = λ v past. c.loop-v.invariant.filled.zero v (omega arith);
}

pub returns : goal.returns
returns c = (
  ap (λ (d : Vector). d.size) c.from_array.ensures.row ∙ c.size-size.ensures.size,
  sym c.size.ensures.size ∙ c.if-size.false ∙ c.size-size.ensures.size,
  λ v below. ap (λ (d : Vector). at d v) c.from_array.ensures.row ∙ c.loop-v.invariant.filled.same v (omega arith),
)
