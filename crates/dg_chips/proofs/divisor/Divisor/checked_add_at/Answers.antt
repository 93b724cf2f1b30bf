use Rattle.dg_chips.proofs.Common.{◌≡◌, sym, arith, ap, ◌∙◌, w32, w64, to_z, of_z, ints, unsigned_abs, ℤ, ◌+ℤ◌, only_at, Vector, at}
use Rattle.dg_chips.proofs.FlowLaws.{held_sum}
use Rattle.dg_chips.proofs.VectorLaws.{one_more, one_written}
use Rattle.dg_chips.proofs.divisor.Divisor.checked_add_at.Goals as goal

pub overflow_add-amount : goal.overflow_add-amount
overflow_add-amount c = (held_sum c.get.result c.args.dollars (omega arith) (omega arith)).0

pub returns-then-unsigned_abs-gt-MAX_AMOUNT : goal.returns-then-unsigned_abs-gt-MAX_AMOUNT
returns-then-unsigned_abs-gt-MAX_AMOUNT c =
    let sum = (held_sum c.get.result c.args.dollars (omega arith) (omega arith)).1
    ∙ ap (λ z. z +ℤ c.args.dollars) c.get.ensures.amount in
    omega (arith, ap unsigned_abs sum)

pub invariant_of-result : goal.invariant_of-result
invariant_of-result c =
    let size : c.self.inside.size ≡ c.args.self.now.size = ap (λ (a : Vector). a.size) c.self.view_is in
    one_written _ (record { size = c.self.inside.size; numbers = c.self.inside.amounts }) c.args.v _ (omega arith)
    (omega arith)
    (omega (arith, ints)) c.self.invariant

pub returns : goal.returns
returns c =
    let size : c.self.inside.size ≡ c.args.self.now.size = ap (λ (a : Vector). a.size) c.self.view_is in
    let held : ℤ = to_z w64 (of_z w64 (to_z w64 (of_z w64 c.get.result) +ℤ to_z w64 (of_z w64 c.args.dollars))) in
    let narrow : to_z w32 (of_z w32 held) ≡ held = omega (arith, ints) in
    let sum = narrow ∙ (held_sum c.get.result c.args.dollars (omega arith) (omega arith)).1
    ∙ ap (λ z. z +ℤ c.args.dollars) c.get.ensures.amount in (
      size,
      λ w below.
          one_more c.self.inside.amounts c.args.v _ c.args.dollars (omega arith)
          (sum ∙ ap (λ (a : Vector). at a c.args.v +ℤ c.args.dollars) (sym c.self.view_is)) w
          ∙ ap (λ (a : Vector). at a w +ℤ only_at c.args.v c.args.dollars w) c.self.view_is,
      one_written _ (record { size = c.self.inside.size; numbers = c.self.inside.amounts }) c.args.v _ (omega arith)
          (omega arith) (omega (arith, ints)) c.self.invariant,
    )
