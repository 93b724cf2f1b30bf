use Rattle.dg_rank.proofs.Common.{◌≡◌, arith, ints, ⊎_elim, cases_eq}
use Rattle.std.proofs.lemmas.Int.{to_z-of_z}
use Rattle.dg_rank.proofs.folding.least_sum.Goals as goal
use Rattle.dg_rank.proofs.folding.least_sum.Goals.{then-sum-least, else-sum-least}

pub loop-b-preserved : goal.loop-b-preserved
loop-b-preserved c = elim c.if-sum-least.branch [
  | then-sum-least w ↦
      let sum = c.in_ok-sum.ensures in
      record {
        least = λ b low. ⊎_elim
            (λ (same : b ≡ c.loop-b.b). rw same (grind (arith, ints, to_z-of_z, sum, c.told-first, c.told-second)))
            (λ (other : b ≡ c.loop-b.b → ⊥).
            let old = c.loop-b.invariant.least b (omega arith) in
            grind (arith, ints, to_z-of_z, old, w.if-sum-least.true, sum, c.told-first, c.told-second))
            (cases_eq b c.loop-b.b);
        part = omega arith;
        is = grind (arith, ints, to_z-of_z, sum, c.told-first, c.told-second);
      }
  | else-sum-least w ↦
      let sum = c.in_ok-sum.ensures in
      record {
        least = λ b low. ⊎_elim
            (λ (same : b ≡ c.loop-b.b). rw same
            (grind (arith, ints, to_z-of_z, sum, w.if-sum-least.false, c.told-first, c.told-second)))
            (λ (other : b ≡ c.loop-b.b → ⊥).
            let old = c.loop-b.invariant.least b (omega arith) in
            omega (arith, ints, old, w.least-is))
            (cases_eq b c.loop-b.b);
        part = omega arith;
        is = grind (arith, w.least-is, w.part-is, c.loop-b.invariant.is);
      }
]
