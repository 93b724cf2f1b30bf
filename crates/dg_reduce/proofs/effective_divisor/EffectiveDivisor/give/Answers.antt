-- The machine's number is the sum, since both are within 2^29.
use Rattle.dg_reduce.proofs.Common.{◌≡◌, ℕ, List, ◌^◌, ◌≤◌, ◌∙◌, ap, arith, ints, slice_index_or, unsigned_abs, within_abs, to_z, of_z, ℤ, pos, ◌+ℤ◌, Vector, at}
use Rattle.dg_chips.proofs.VectorLaws.{one_more}
use Rattle.dg_theory.specs.Firing.{only_at}
use mir.Syntax.{w32}
use Rattle.dg_reduce.proofs.effective_divisor.EffectiveDivisor.give.Goals as goal

given : (a : ℤ) (d : ℕ) → unsigned_abs a ≤ 2 ^ 29 → d ≤ 2 ^ 29 →
    to_z w32 (of_z w32 (to_z w32 (of_z w32 a) +ℤ to_z w32 d)) ≡ a +ℤ pos d
given a d small few = let (low, high) = within_abs a (2 ^ 29) small in omega (arith, ints)

pub returns-clause-amounts : goal.returns-clause-amounts
returns-clause-amounts c = λ w.
    let xs : List ℤ = c.self.inside.amounts in
    let same : slice_index_or xs c.args.v (pos 0) ≡ at c.args.self.now c.args.v =
    ap (λ (d : Vector). at d c.args.v) c.self.view_is in
    let size : c.self.inside.size ≡ c.args.self.now.size = ap (λ (d : Vector). d.size) c.self.view_is in
    one_more xs c.args.v _ (pos c.args.dollars) (omega arith)
    (given (slice_index_or xs c.args.v (pos 0)) c.args.dollars (rw same c.requires.range) c.requires.dollars) w
    ∙ ap (λ (d : Vector). at d w +ℤ only_at c.args.v (pos c.args.dollars) w) c.self.view_is
