-- Gains in a graph whose edges have no direction, with amounts c and s.
--   crossing g c s v w   what the edges from v to w take of the product of c at v and s at w
--   held g c s v w       the same with both amounts at v
--   over_pairs g f       the sum of f over all pairs of vertices
--   along_edge           x (k (a - b)) = k (x a) - k (x b)
--   weighted_gain        the gain of v by s, times c v, is what crosses the edges at v less what is held there
--   weighted_gains       the same, added up over the vertices
--   crossing-symmetric   the sum of what crosses is the same for c and s as for s and c
--   held-symmetric       and so is the sum of what is held
--   gain-symmetric       weighted by c, the gains by s add up to as much as the gains by c, weighted by s
--   gains_cancel         the gains of all vertices add up to nothing
--   degree_stays         the law that firing keeps the degree
use Rattle.dg_theory.proofs.Common.{◌≡◌, ℕ, arith, refl, sym, ◌∙◌, ints, ℤ, pos, ◌-ℤ◌, ◌*ℤ◌, *ℤ-zero, *ℤ_comm, sum_below, Multigraph, IsMultigraph, edges_between, Amounts, gain, FiringKeepsDegree}
use Rattle.dg_theory.proofs.Products.{mulz-sub, mul-swap, one-mul}
use Rattle.dg_theory.proofs.SumLaws.{sum_below-add, sum_below-cong, sum_below-zero}
use Rattle.dg_theory.proofs.FiringLaws.{gain-constant}
use Rattle.dg_theory.proofs.SumSwap.{sum_below-scale, sum_below-sub, sum_below-swap}

abbrev pub crossing : Multigraph → Amounts → Amounts → ℕ → ℕ → ℤ
crossing g c s v w = pos (edges_between g v w) *ℤ (c v *ℤ s w)

abbrev pub held : Multigraph → Amounts → Amounts → ℕ → ℕ → ℤ
held g c s v w = pos (edges_between g v w) *ℤ (c v *ℤ s v)

abbrev pub over_pairs : Multigraph → (ℕ → ℕ → ℤ) → ℤ
over_pairs g f = sum_below g.size (λ v. sum_below g.size (λ w. f v w))

pub along_edge : (x : ℤ) (k : ℕ) (a b : ℤ) → x *ℤ (pos k *ℤ (a -ℤ b)) ≡ pos k *ℤ (x *ℤ a) -ℤ pos k *ℤ (x *ℤ b)
along_edge x k a b = rw (mul-swap x k (a -ℤ b), mulz-sub x a b) (mulz-sub (pos k) (x *ℤ a) (x *ℤ b))

pub weighted_gain : (g : Multigraph) (c s : Amounts) (v : ℕ) →
    c v *ℤ gain g s v ≡ sum_below g.size (crossing g c s v) -ℤ sum_below g.size (held g c s v)
weighted_gain g c s v =
    sum_below-scale g.size (c v) (λ w. pos (edges_between g v w) *ℤ (s w -ℤ s v))
    ∙ sum_below-cong g.size _ _ (λ w _. along_edge (c v) (edges_between g v w) (s w) (s v))
    ∙ sum_below-sub g.size (crossing g c s v) (held g c s v)

pub weighted_gains : (g : Multigraph) (c s : Amounts) →
    sum_below g.size (λ v. c v *ℤ gain g s v) ≡ over_pairs g (crossing g c s) -ℤ over_pairs g (held g c s)
weighted_gains g c s =
    sum_below-cong g.size _ _ (λ v _. weighted_gain g c s v)
    ∙ sum_below-sub g.size (λ v. sum_below g.size (crossing g c s v)) (λ v. sum_below g.size (held g c s v))

pub crossing-symmetric : (g : Multigraph) (c s : Amounts) → IsMultigraph g →
    over_pairs g (crossing g c s) ≡ over_pairs g (crossing g s c)
crossing-symmetric g c s graph =
    sum_below-swap g.size g.size (crossing g c s)
    ∙ sum_below-cong g.size _ _ (λ w _. sum_below-cong g.size _ _ (λ v _.
    let edges : edges_between g v w ≡ edges_between g w v = graph.symmetric v w in
    rw (edges, *ℤ_comm (c v) (s w)) refl))

pub held-symmetric : (g : Multigraph) (c s : Amounts) → over_pairs g (held g c s) ≡ over_pairs g (held g s c)
held-symmetric g c s =
    sum_below-cong g.size _ _ (λ v _. sum_below-cong g.size _ _ (λ w _. rw (*ℤ_comm (c v) (s v)) refl))

pub gain-symmetric : (g : Multigraph) (c s : Amounts) → IsMultigraph g →
    sum_below g.size (λ v. c v *ℤ gain g s v) ≡ sum_below g.size (λ v. s v *ℤ gain g c v)
gain-symmetric g c s graph =
    omega (
      arith,
      ints,
      weighted_gains g c s,
      weighted_gains g s c,
      crossing-symmetric g c s graph,
      held-symmetric g c s,
    )

pub gains_cancel : (g : Multigraph) (s : Amounts) → IsMultigraph g → sum_below g.size (gain g s) ≡ pos 0
gains_cancel g s graph =
    sym (sum_below-cong g.size _ _ (λ v _. one-mul (gain g s v)))
    ∙ gain-symmetric g (λ _. pos 1) s graph
    ∙ sum_below-zero g.size _ (λ v _. rw (gain-constant g (pos 1) v) (*ℤ-zero (s v)))

pub degree_stays : FiringKeepsDegree
degree_stays g D s graph = omega (arith, ints, sum_below-add g.size D (gain g s), gains_cancel g s graph)
