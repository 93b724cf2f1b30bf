-- The machine's number is the difference, since both are within 2^29.
use Rattle.dg_reduce.proofs.Common.{◌≡◌, ℕ, List, ◌^◌, ◌≤◌, ◌∙◌, ap, arith, ints, inl, inr, sym, get_or-set_same, get_or-set_other, slice_index_or, cases_eq, unsigned_abs, within_abs, to_z, of_z, ℤ, pos, ◌-ℤ◌, Vector, at}
use Rattle.dg_theory.proofs.Plays.{only_at-here, only_at-other}
use Rattle.std.proofs.Math.IntN.{+ℤ_idr}
use mir.Syntax.{w32}
use Rattle.dg_reduce.proofs.effective_divisor.EffectiveDivisor.take.Goals as goal

taken : (a : ℤ) (d : ℕ) → unsigned_abs a ≤ 2 ^ 29 → d ≤ 2 ^ 29 →
    to_z w32 (of_z w32 (to_z w32 (of_z w32 a) -ℤ to_z w32 d)) ≡ a -ℤ pos d
taken a d small few = let (low, high) = within_abs a (2 ^ 29) small in omega (arith, ints)

pub overflow_sub-amounts : goal.overflow_sub-amounts
overflow_sub-amounts c =
    let same : slice_index_or c.self.inside.amounts c.args.v (pos 0) ≡ at c.args.self.now c.args.v =
    ap (λ (d : Vector). at d c.args.v) c.self.view_is in
    let (low, high) = within_abs (slice_index_or c.self.inside.amounts c.args.v (pos 0)) (2 ^ 29)
    (rw same c.requires.range) in
    omega (arith, ints)

pub returns-clause-amounts : goal.returns-clause-amounts
returns-clause-amounts c = λ w.
    let xs : List ℤ = c.self.inside.amounts in
    let same : (u : ℕ) → slice_index_or xs u (pos 0) ≡ at c.args.self.now u =
    λ u. ap (λ (d : Vector). at d u) c.self.view_is in
    let size : c.self.inside.size ≡ c.args.self.now.size = ap (λ (d : Vector). d.size) c.self.view_is in
    let small : unsigned_abs (slice_index_or xs c.args.v (pos 0)) ≤ 2 ^ 29 = rw (same c.args.v) c.requires.range in
    elim (cases_eq w c.args.v) [
      | inl here ↦ rw (here, only_at-here c.args.v (pos c.args.dollars)) (get_or-set_same xs c.args.v _ (pos 0) (omega arith)
          ∙ taken (slice_index_or xs c.args.v (pos 0)) c.args.dollars small c.requires.dollars
          ∙ ap (λ (z : ℤ). z -ℤ pos c.args.dollars) (same c.args.v))
      | inr other ↦ rw (only_at-other c.args.v (pos c.args.dollars) w other)
          (get_or-set_other xs c.args.v w _ (pos 0) other ∙ same w ∙ sym (+ℤ_idr (at c.args.self.now w)))
    ]
