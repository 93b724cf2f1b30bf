-- Two scripts and the difference between them.
--   difference t s    the script t less the script s
--   fired-difference  to fire by s, and then by t less s, is to fire by t
--   fired-shifted     two scripts that differ by a constant on the vertices fire alike
use Rattle.dg_theory.proofs.Common.{◌≡◌, ℕ, ◌<◌, arith, sym, ◌∙◌, ints, ℤ, ◌+ℤ◌, ◌-ℤ◌, Multigraph, Amounts, gain, fired}
use Rattle.dg_theory.proofs.FiringLaws.{fired-fired, fired-cong, fired-constant}

abbrev pub difference : Amounts → Amounts → Amounts
difference t s w = t w -ℤ s w

pub fired-difference : (g : Multigraph) (D s t : Amounts) (v : ℕ) → v < g.size →
    fired g D s v +ℤ gain g (difference t s) v ≡ fired g D t v
fired-difference g D s t v inside =
    fired-fired g D s (difference t s) v
    ∙ fired-cong g D (λ w. s w +ℤ difference t s w) t v inside (λ w below. omega (arith, ints))

pub fired-shifted : (g : Multigraph) (D s t : Amounts) (x : ℤ) → ((w : ℕ) → w < g.size → s w ≡ t w +ℤ x) →
    (v : ℕ) → v < g.size → fired g D s v ≡ fired g D t v
fired-shifted g D s t x apart v inside =
    fired-cong g D s (λ w. t w +ℤ x) v inside apart
    ∙ (sym (fired-fired g D t (λ _. x) v) ∙ fired-constant g (fired g D t) x v)
