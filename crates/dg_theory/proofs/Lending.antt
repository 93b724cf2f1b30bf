-- Who lends most loses, and the comparison of a reduced divisor with another.
--   loses         if v lends at least as often as every vertex, and more often than each one outside a set S, then by
--                 the script v loses at least as much as its edges out of S
--   lends_most_gains_none  a vertex that lends at least as often as every vertex gains nothing
--   q_lends_most  if from a divisor that is reduced for q a script leaves nobody off q in debt, q lends most
use Rattle.dg_theory.proofs.Common.{if◌then◌else◌, ◌≡◌, ◌≢◌, ℕ, zero, suc, ◌<◌, arith, refl, sym, ap, ◌∙◌, Bool, true, false, ints, by_lt_z, ℤ, pos, ◌+ℤ◌, ◌-ℤ◌, ◌*ℤ◌, ◌≤ℤ◌, ◌<ℤ◌, sum_below, nat_sum_below, Multigraph, edges_between, Amounts, gain, fired, edges_out, IsReduced}
use Rattle.dg_theory.proofs.SumBounds.{mul-nonpos, mul-negative, sum_below-nonpos}
use Rattle.dg_theory.proofs.Levels.{level, in_level, off_level, level_in, level_off}
use Rattle.dg_theory.proofs.Largest.{largest, IsLargest}

loses_by_edge : (b : Bool) (k : ℕ) (x : ℤ) → x ≤ℤ pos 0 → (b ≡ false → x <ℤ pos 0) →
    (pos k *ℤ x +ℤ pos (if b then 0 else k)) ≤ℤ pos 0
loses_by_edge true k x low out = omega (arith, ints, mul-nonpos k x low)
loses_by_edge false k x low out = mul-negative k x (out refl)

loses_by_edges : (n : ℕ) (S : ℕ → Bool) (e : ℕ → ℕ) (d : ℕ → ℤ) → ((w : ℕ) → w < n → d w ≤ℤ pos 0) →
    ((w : ℕ) → w < n → S w ≡ false → d w <ℤ pos 0) →
    (sum_below n (λ w. pos (e w) *ℤ d w) +ℤ pos (nat_sum_below n (λ w. if S w then 0 else e w))) ≤ℤ pos 0
loses_by_edges zero S e d low out = omega (arith, ints)
loses_by_edges (suc n) S e d low out =
    let before : (sum_below n (λ w. pos (e w) *ℤ d w) +ℤ pos (nat_sum_below n (λ w. if S w then 0 else e w))) ≤ℤ pos 0
    = loses_by_edges n S e d (λ w below. low w (omega arith)) (λ w below. out w (omega arith)) in
    let last : (pos (e n) *ℤ d n +ℤ pos (if S n then 0 else e n)) ≤ℤ pos 0
    = loses_by_edge (S n) (e n) (d n) (low n (omega arith)) (out n (omega arith)) in
    omega (arith, ints)

pub loses : (g : Multigraph) (S : ℕ → Bool) (s : Amounts) (v : ℕ) → IsLargest g.size s v →
    ((w : ℕ) → w < g.size → S w ≡ false → s w <ℤ s v) → (gain g s v +ℤ pos (edges_out g S v)) ≤ℤ pos 0
loses g S s v top out =
    loses_by_edges g.size S (edges_between g v) (λ w. s w -ℤ s v)
    (λ w below. let at : s w ≤ℤ s v = top w below in omega (arith, ints))
    (λ w below outside. let at : s w <ℤ s v = out w below outside in omega (arith, ints))

pub lends_most_gains_none : (g : Multigraph) (s : Amounts) (v : ℕ) → IsLargest g.size s v → gain g s v ≤ℤ pos 0
lends_most_gains_none g s v top =
    sum_below-nonpos g.size _ (λ w below.
    let at : s w ≤ℤ s v = top w below in mul-nonpos (edges_between g v w) (s w -ℤ s v) (omega (arith, ints)))

pub q_lends_most : (g : Multigraph) (q : ℕ) (R k : Amounts) → q < g.size → IsReduced g q R →
    ((v : ℕ) → v < g.size → v ≢ q → pos 0 ≤ℤ fired g R k v) → IsLargest g.size k q
q_lends_most g q R k vertex reduced paid =
    let (u, inside, top) = largest g.size k (omega arith) in
    by_lt_z (k q) (k u)
    (λ (less : k q <ℤ k u).
    let S : ℕ → Bool = level k (k u) in
    let without : S q ≡ false = off_level k (k u) q less in
    let (v, in_v, with_v, falls) = reduced.none_fires S without u inside (in_level k (k u) u (omega (arith, ints))) in
    let high : k u ≤ℤ k v = level_in k (k u) v with_v in
    let lost : (gain g k v +ℤ pos (edges_out g S v)) ≤ℤ pos 0 = loses g S k v
    (λ w below. let at : k w ≤ℤ k u = top w below in omega (arith, ints))
    (λ w below outside. let at : k w <ℤ k u = level_off k (k u) w outside in omega (arith, ints)) in
    let off_q : v ≢ q = λ same. let at : true ≡ false = sym with_v ∙ (ap S same ∙ without) in cc in
    let rich : pos 0 ≤ℤ fired g R k v = paid v in_v off_q in
    absurd (omega (arith, ints)))
    (λ (more : k u ≤ℤ k q). λ w below. let at : k w ≤ℤ k u = top w below in omega (arith, ints))
