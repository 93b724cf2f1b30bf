-- Amounts and the script that leads to them.
--   tied-start     a script of zeros leads from amounts to the same
--   tied-more      after another script, the sum of both leads to the new amounts
--   cleared-start  at the start no level beyond the farthest is in debt
use Rattle.dg_reduce.proofs.Common.{◌≡◌, ℕ, ◌-◌, ◌<◌, ◌≤◌, arith, ap, sym, ◌∙◌, ℤ, pos, ◌+ℤ◌, unsigned_abs, Multigraph, Amounts, gain, fired, IsDistance, fired-fired, fired-constant, fired-cong, IsGraph, at, FiringTrace, IsFiringTrace, IsCleared}
use Rattle.dg_reduce.specs.States.{level_limit_at}
use Rattle.dg_reduce.proofs.LevelLimits.{level_limit_at-least}

pub tied-start : (g : Multigraph) (D s : Amounts) → ((v : ℕ) → s v ≡ pos 0) → (v : ℕ) → v < g.size → D v ≡ fired g D s v
tied-start g D s none v inside =
    sym (fired-cong g D s (λ _. pos 0) v inside (λ w _. none w) ∙ fired-constant g D (pos 0) v)

pub tied-more : (g : Multigraph) (C D E s t u : Amounts) → ((v : ℕ) → v < g.size → D v ≡ fired g C s v) →
    ((v : ℕ) → v < g.size → E v ≡ fired g D u v) → ((v : ℕ) → v < g.size → t v ≡ s v +ℤ u v) →
    (v : ℕ) → v < g.size → E v ≡ fired g C t v
tied-more g C D E s t u before now more v inside =
    now v inside
    ∙ ap (λ (z : ℤ). z +ℤ gain g u v) (before v inside)
    ∙ fired-fired g C s u v
    ∙ fired-cong g C (λ w. s w +ℤ u w) t v inside (λ w below. sym (more w below))

pub cleared-start : (g : Multigraph) (q : ℕ) (level : ℕ → ℕ) (x : FiringTrace) → IsGraph g → IsDistance g q level →
    IsFiringTrace g x →
    ((v : ℕ) → v < g.size → unsigned_abs (at x.chips v) ≤ 2000000) → ((v : ℕ) → at x.script v ≡ pos 0) →
    IsCleared g level g.size x
cleared-start g q level x graph distance tied range none =
    let start : 2000000 ≤ level_limit_at (g.size - 1) = level_limit_at-least (g.size - 1) in
    record {
      tied = tied;
      clear = λ v inside far. absurd (omega (arith, distance.few v inside));
      chips = λ v inside. let small : unsigned_abs (at x.chips v) ≤ 2000000 = range v inside in omega arith;
      script = λ v inside.
          let zero_abs : unsigned_abs (at x.script v) ≡ 0 = ap unsigned_abs (none v) in
          omega arith;
    }
