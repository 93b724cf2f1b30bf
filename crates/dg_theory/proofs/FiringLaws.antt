-- Laws of firing.
--   gain-add                what one gets by a sum of scripts is what one gets by each
--   fired-fired             firing adds up
--   gain-constant           by a constant script nobody gets anything
--   fired-constant          so it changes nothing
--   fired-cong              scripts that agree on the vertices fire alike
--   fired-constant_script   the law for a script that is constant on the vertices
use Rattle.dg_theory.proofs.Common.{◌≡◌, ℕ, ◌<◌, arith, refl, sym, ◌∙◌, ints, ℤ, pos, ◌+ℤ◌, ◌-ℤ◌, ◌*ℤ◌, *ℤ-zero, Multigraph, edges_between, Amounts, gain, fired, FiringAddsUp, ConstantsDoNothing}
use Rattle.dg_theory.proofs.Products.{mul-change}
use Rattle.dg_theory.proofs.SumLaws.{sum_below-add, sum_below-cong, sum_below-zero}

pub gain-add : (g : Multigraph) (s t : Amounts) (v : ℕ) → gain g s v +ℤ gain g t v ≡ gain g (λ w. s w +ℤ t w) v
gain-add g s t v =
    sym (sum_below-add g.size (λ w. pos (edges_between g v w) *ℤ (s w -ℤ s v))
    (λ w. pos (edges_between g v w) *ℤ (t w -ℤ t v)))
    ∙ sum_below-cong g.size _ _ (λ w below. mul-change (edges_between g v w) (s w) (t w) (s v) (t v))

pub fired-fired : FiringAddsUp
fired-fired g D s t v = omega (arith, ints, gain-add g s t v)

pub gain-constant : (g : Multigraph) (x : ℤ) (v : ℕ) → gain g (λ _. x) v ≡ pos 0
gain-constant g x v =
    sum_below-zero g.size _ (λ w below. let same : x -ℤ x ≡ pos 0 = omega (arith, ints) in rw (same, *ℤ-zero) refl)

pub fired-constant : (g : Multigraph) (D : Amounts) (x : ℤ) (v : ℕ) → fired g D (λ _. x) v ≡ D v
fired-constant g D x v = omega (arith, ints, gain-constant g x v)

pub fired-cong : (g : Multigraph) (D s t : Amounts) (v : ℕ) → v < g.size → ((w : ℕ) → w < g.size → s w ≡ t w) →
    fired g D s v ≡ fired g D t v
fired-cong g D s t v inside same =
    let gains : gain g s v ≡ gain g t v = sum_below-cong g.size _ _ (λ w below.
    let at_w : s w ≡ t w = same w below in let at_v : s v ≡ t v = same v inside in
    rw (at_w, at_v) refl) in
    omega (arith, ints)

pub fired-constant_script : ConstantsDoNothing
fired-constant_script g D s x constant v inside =
    fired-cong g D s (λ _. x) v inside constant ∙ fired-constant g D x v
