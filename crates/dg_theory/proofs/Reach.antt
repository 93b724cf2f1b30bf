-- The distance from a vertex q, as a function of every graph and vertex.
--   reached g q k v      a chain of at most k edges leads from q to v
--   distance_from g q v  the distance of v from q: how many k below the size there are for which none does
--   reached-next         a neighbour of a vertex that is reached is reached by one edge more
--   reached-back         a vertex that one edge more reaches has a neighbour that is reached
--   distance-gradual     q is at 0, and neighbours differ by at most one
--   distance_from-is     in a multigraph it is the distance
use Rattle.dg_theory.proofs.Common.{◌≡◌, ◌≢◌, ℕ, zero, suc, ◌+◌, ◌<◌, ◌≤◌, ◌==◌, ◌&&◌, Bool, true, false, arith, refl, sym, ap, ◌∙◌, ⊎_elim, ◌||◌, nat_lt, cases_lt, or_cases, or_left, or_right, and_parts, and_from, both_ways, eq-eqb, ne_eqb, lt-ltb, ltb-true, false_from_ne_true, Multigraph, IsMultigraph, edges_between, IsDistance}
use Rattle.dg_theory.proofs.Waits.{some_below, some_below-at, some_below-witness, Lasts, wait, wait-few, wait-over, wait-on, wait-end}
use Rattle.dg_theory.proofs.Few.{IsGradual, gradual-few}

abbrev next_to : Multigraph → (ℕ → Bool) → ℕ → Bool
next_to g S v = some_below g.size (λ u. S u && nat_lt 0 (edges_between g v u))

abbrev pub reached : Multigraph → ℕ → ℕ → ℕ → Bool
reached g q zero v = v == q
reached g q (suc k) v = reached g q k v || next_to g (reached g q k) v

unfoldable pub distance_from : Multigraph → ℕ → ℕ → ℕ
distance_from g q v = wait g.size (λ k. reached g q k v)

reached-lasts : (g : Multigraph) (q v : ℕ) → Lasts (λ k. reached g q k v)
reached-lasts g q v k on = or_left (reached g q k v) _ on

pub reached-next : (g : Multigraph) (q k u v : ℕ) → u < g.size → 0 < edges_between g v u → reached g q k u ≡ true →
    reached g q (suc k) v ≡ true
reached-next g q k u v below edge on = or_right (reached g q k v) _
    (some_below-at g.size (λ w. reached g q k w && nat_lt 0 (edges_between g v w)) u below
    (and_from _ _ on (lt-ltb 0 (edges_between g v u) edge)))

pub reached-back : (g : Multigraph) (q k v : ℕ) → reached g q k v ≡ false → reached g q (suc k) v ≡ true →
    (u : ℕ) × (u < g.size) × (reached g q k u ≡ true) × (0 < edges_between g v u)
reached-back g q k v off on = ⊎_elim
    (λ (before : reached g q k v ≡ true). absurd (both_ways _ off before))
    (λ (next : next_to g (reached g q k) v ≡ true).
    let (u, below, both) = some_below-witness g.size (λ w. reached g q k w && nat_lt 0 (edges_between g v w)) next in
    let (in_u, edge) = and_parts (reached g q k u) (nat_lt 0 (edges_between g v u)) both in
    (u, below, in_u, ltb-true 0 (edges_between g v u) edge))
    (or_cases (reached g q k v) (next_to g (reached g q k) v) on)

pub distance-gradual : (g : Multigraph) (q : ℕ) → IsGradual g q (distance_from g q)
unfolding distance_from
distance-gradual g q = record {
  start =
      let none : wait g.size (λ k. reached g q k q) ≤ 0 =
      wait-over g.size (λ k. reached g q k q) 0 (reached-lasts g q q) (eq-eqb q q refl) in
      omega arith;
  close = λ v w v_below w_below edge. ⊎_elim
      (λ (near : wait g.size (λ k. reached g q k w) < g.size).
      let next : reached g q (suc (wait g.size (λ k. reached g q k w))) v ≡ true =
      reached-next g q (wait g.size (λ k. reached g q k w)) w v w_below edge
      (wait-end g.size (λ k. reached g q k w) (reached-lasts g q w) near) in
      omega (
        arith,
        wait-over g.size (λ k. reached g q k v) (suc (wait g.size (λ k. reached g q k w)))
            (reached-lasts g q v) next,
      ))
      (λ (far : g.size ≤ wait g.size (λ k. reached g q k w)). omega (arith, wait-few g.size (λ k. reached g q k v)))
      (cases_lt (wait g.size (λ k. reached g q k w)) g.size);
}

-- with the distance k of v taken apart
nearer-at : (g : Multigraph) (q v k : ℕ) → IsGradual g q (distance_from g q) → k < g.size → distance_from g q v ≡ k →
    v ≢ q →
    v < g.size → (u : ℕ) × (u < g.size) × (0 < edges_between g v u) × (distance_from g q u + 1 ≡ distance_from g q v)
unfolding distance_from
nearer-at g q v zero gradual few at other vertex =
    let far : 0 < wait g.size (λ k. reached g q k v) =
    wait-on g.size (λ k. reached g q k v) 0 (reached-lasts g q v) (ne_eqb v q other) few in
    absurd (omega arith)
nearer-at g q v (suc k) gradual few at other vertex =
    let on : reached g q (wait g.size (λ k. reached g q k v)) v ≡ true =
    wait-end g.size (λ k. reached g q k v) (reached-lasts g q v) (omega arith) in
    let off : reached g q k v ≡ false = false_from_ne_true (reached g q k v) (λ early.
    let short : wait g.size (λ k. reached g q k v) ≤ k =
    wait-over g.size (λ k. reached g q k v) k (reached-lasts g q v) early in
    absurd (omega arith)) in
    let (u, below, in_u, edge) = reached-back g q k v off (sym (ap (λ j. reached g q j v) at) ∙ on) in
    let short : wait g.size (λ k. reached g q k u) ≤ k =
    wait-over g.size (λ k. reached g q k u) k (reached-lasts g q u) in_u in
    let step : distance_from g q v ≤ distance_from g q u + 1 = gradual.close v u vertex below edge in
    (u, below, edge, omega arith)

pub distance_from-is : (g : Multigraph) (q : ℕ) → IsMultigraph g → q < g.size → IsDistance g q (distance_from g q)
distance_from-is g q graph start =
    let gradual : IsGradual g q (distance_from g q) = distance-gradual g q in
    let few : (v : ℕ) → v < g.size → distance_from g q v < g.size = λ v vertex.
    gradual-few g q (distance_from g q) v graph gradual start vertex in
    record {
      start = gradual.start;
      few = few;
      stepped = λ v vertex other. nearer-at g q v (distance_from g q v) gradual (few v vertex) refl other vertex;
      close = gradual.close;
    }
