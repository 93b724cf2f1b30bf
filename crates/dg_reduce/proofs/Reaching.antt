-- The steps of the search for the distances from vertex q.
--   spread-new, spread-reached, spread-apart   what becomes of a neighbour that is not reached, of a vertex that is,
--                                              and of one that is no neighbour
--   AreSpread         the levels after are those before with the neighbours of v that were not reached at level k
--   by_spread         what follows in each of the three cases
--   spread-lower      no level is raised
--   spread-kept       a vertex that is lower than the level given was so before
--   reached-first     if q alone is at level 0 and all others are at the number of vertices, q alone is reached
--   reached-passed    a vertex of the level is passed once its neighbours are reached
--   reached-other     a vertex of another level needs nothing
--   reached-next      once all vertices of a level are passed, it is the turn of the next
--   reached-gradual   when no level is left, the levels are gradual
--   levels-first      so the list at the start is right
use Rattle.dg_reduce.proofs.Common.{◌≡◌, ◌≢◌, ℕ, ◌+◌, ◌<◌, ◌≤◌, set, replicate, slice_index, arith, ap, sym, subst, ◌∙◌, ⊎_elim, cases_eq, cases_lt, nat_tests, get_or-set_same, get_or-set_other, get_or-replicate, length-replicate, Multigraph, IsMultigraph, edges_between, IsGradual, HasNearer, AreLevelsReached, spread_level}

spread_level-new : (g : Multigraph) (v k : ℕ) (level : ℕ → ℕ) (w : ℕ) → level w ≡ g.size → 0 < edges_between g v w →
    spread_level g v k level w ≡ k
spread_level-new g v k level w far edge = grind (arith, nat_tests)

spread_level-reached : (g : Multigraph) (v k : ℕ) (level : ℕ → ℕ) (w : ℕ) → level w < g.size →
    spread_level g v k level w ≡ level w
spread_level-reached g v k level w near = grind (arith, nat_tests)

spread_level-apart : (g : Multigraph) (v k : ℕ) (level : ℕ → ℕ) (w : ℕ) → edges_between g v w ≡ 0 →
    spread_level g v k level w ≡ level w
spread_level-apart g v k level w none = grind (arith, nat_tests)

abbrev AreSpread : Multigraph → ℕ → ℕ → (ℕ → ℕ) → (ℕ → ℕ) → Type 0
AreSpread g v k level after = (w : ℕ) → w < g.size → after w ≡ spread_level g v k level w

by_spread : {P : Type 0} (g : Multigraph) (v k : ℕ) (level after : ℕ → ℕ) (w : ℕ) → AreSpread g v k level after →
    w < g.size →
    level w ≤ g.size → (level w < g.size → after w ≡ level w → P) →
    (level w ≡ g.size → 0 < edges_between g v w → after w ≡ k → P) → (level w ≡ g.size → after w ≡ g.size → P) → P
by_spread g v k level after w spreads inside most near new apart =
    let is : after w ≡ spread_level g v k level w = spreads w inside in
    ⊎_elim
    (λ (low : level w < g.size). near low (is ∙ spread_level-reached g v k level w low))
    (λ (high : g.size ≤ level w).
    let far : level w ≡ g.size = omega arith in
    ⊎_elim
    (λ (edge : 0 < edges_between g v w). new far edge (is ∙ spread_level-new g v k level w far edge))
    (λ (none : edges_between g v w ≤ 0). apart far (is ∙ spread_level-apart g v k level w (omega arith) ∙ far))
    (cases_lt 0 (edges_between g v w)))
    (cases_lt (level w) g.size)

spread_level-lower : (g : Multigraph) (v k : ℕ) (level after : ℕ → ℕ) (w : ℕ) → AreSpread g v k level after → w < g.size →
    level w ≤ g.size → k ≤ g.size → after w ≤ level w
spread_level-lower g v k level after w spreads inside most few =
    by_spread g v k level after w spreads inside most (λ _ same. omega arith) (λ far _ new. omega arith)
    (λ far same. omega arith)

spread_level-kept : (g : Multigraph) (v k : ℕ) (level after : ℕ → ℕ) (w : ℕ) → AreSpread g v k level after → w < g.size →
    level w ≤ g.size → k < g.size → after w < k → level w ≡ after w
spread_level-kept g v k level after w spreads inside most few low =
    by_spread g v k level after w spreads inside most (λ _ same. sym same) (λ far _ new. absurd (omega arith))
    (λ far same. absurd (omega arith))

pub reached-first : (g : Multigraph) (q : ℕ) (level : ℕ → ℕ) → q < g.size → level q ≡ 0 →
    ((v : ℕ) → v < g.size → v ≢ q → level v ≡ g.size) → AreLevelsReached g q 0 0 level
reached-first g q level vertex start others = record {
  start = start;
  most = λ v inside. ⊎_elim
      (λ (same : v ≡ q). let at : level v ≡ level q = ap level same in omega arith)
      (λ (other : v ≡ q → ⊥). omega (arith, others v inside other))
      (cases_eq v q);
  known = λ v inside near. ⊎_elim
      (λ (same : v ≡ q). let at : level v ≡ level q = ap level same in omega arith)
      (λ (other : v ≡ q → ⊥). absurd (omega (arith, others v inside other)))
      (cases_eq v q);
  nearer = λ v inside other near. absurd (omega (arith, others v inside other));
  close = λ v w v_below w_below edge low. absurd (omega arith);
  passed = λ v w v_below w_below edge at low. absurd (omega arith);
}

reached_nearer : (g : Multigraph) (q k v : ℕ) (level after : ℕ → ℕ) → IsMultigraph g → v < g.size → k + 1 < g.size →
    AreLevelsReached g q k v level → level v ≡ k → AreSpread g v (k + 1) level after → (w : ℕ) → w < g.size → w ≢ q →
    after w < g.size → HasNearer g after w
reached_nearer g q k v level after graph vertex few state at spreads w inside other near =
    by_spread g v (k + 1) level after w spreads inside (state.most w inside)
    (λ low same.
    let (x, below, edge, less) = state.nearer w inside other low in
    let lower : after x ≤ level x =
    spread_level-lower g v (k + 1) level after x spreads below (state.most x below) (omega arith) in
    (x, below, edge, omega arith))
    (λ far edge new.
    let lower : after v ≤ level v =
    spread_level-lower g v (k + 1) level after v spreads vertex (state.most v vertex) (omega arith) in
    let back : 0 < edges_between g w v = omega (arith, graph.symmetric w v) in
    (v, vertex, back, omega arith))
    (λ far same. absurd (omega arith))

reached_by : (g : Multigraph) (q k v : ℕ) (level after : ℕ → ℕ) → IsMultigraph g → k + 1 < g.size →
    AreLevelsReached g q k v level → AreSpread g v (k + 1) level after → (a : ℕ) → a < g.size → 0 < edges_between g a v →
    after a ≤ k + 1
reached_by g q k v level after graph few state spreads a inside edge =
    by_spread g v (k + 1) level after a spreads inside (state.most a inside)
    (λ low same. omega (arith, state.known a inside low))
    (λ far _ new. omega arith)
    (λ far same.
    let out : 0 < edges_between g v a = omega (arith, graph.symmetric a v) in
    omega (arith, spreads a inside, spread_level-new g v (k + 1) level a far out))

pub reached-passed : (g : Multigraph) (q k v : ℕ) (level after : ℕ → ℕ) → IsMultigraph g → q < g.size → v < g.size →
    k + 1 < g.size → AreLevelsReached g q k v level → level v ≡ k → AreSpread g v (k + 1) level after →
    AreLevelsReached g q k (v + 1) after
reached-passed g q k v level after graph start vertex few state at spreads =
    let lower : (w : ℕ) → w < g.size → after w ≤ level w =
    λ w inside. spread_level-lower g v (k + 1) level after w spreads inside (state.most w inside) (omega arith) in
    let kept : (w : ℕ) → w < g.size → after w < k + 1 → level w ≡ after w =
    λ w inside low. spread_level-kept g v (k + 1) level after w spreads inside (state.most w inside) few low in
    record {
      start = omega (arith, lower q start, state.start);
      most = λ w inside. omega (arith, lower w inside, state.most w inside);
      known = λ w inside near. by_spread g v (k + 1) level after w spreads inside (state.most w inside)
          (λ low same. omega (arith, state.known w inside low))
          (λ far _ new. omega arith)
          (λ far same. absurd (omega arith));
      nearer = reached_nearer g q k v level after graph vertex few state at spreads;
      close = λ a b a_below b_below edge low.
          let same : level b ≡ after b = kept b b_below (omega arith) in
          omega (arith, lower a a_below, state.close a b a_below b_below edge (omega arith));
      passed = λ a b a_below b_below edge on before.
          let same : level b ≡ after b = kept b b_below (omega arith) in
          ⊎_elim
          (λ (here : b ≡ v). reached_by g q k v level after graph few state spreads a a_below
          (subst (λ x. 0 < edges_between g a x) here edge))
          (λ (other : b ≡ v → ⊥).
          omega (arith, lower a a_below, state.passed a b a_below b_below edge (omega arith) (omega arith)))
          (cases_eq b v);
    }

pub reached-other : (g : Multigraph) (q k v : ℕ) (level : ℕ → ℕ) → AreLevelsReached g q k v level → level v ≢ k →
    AreLevelsReached g q k (v + 1) level
reached-other g q k v level state off = record {
  start = state.start;
  most = state.most;
  known = state.known;
  nearer = state.nearer;
  close = state.close;
  passed = λ a b a_below b_below edge on before. ⊎_elim
      (λ (here : b ≡ v). absurd (off (sym (ap level here) ∙ on)))
      (λ (other : b ≡ v → ⊥). state.passed a b a_below b_below edge on (omega arith))
      (cases_eq b v);
}

pub reached-next : (g : Multigraph) (q k u : ℕ) (level : ℕ → ℕ) → AreLevelsReached g q k u level → g.size ≤ u →
    AreLevelsReached g q (k + 1) 0 level
reached-next g q k u level state all = record {
  start = state.start;
  most = state.most;
  known = λ v inside near. omega (arith, state.known v inside near);
  nearer = state.nearer;
  close = λ a b a_below b_below edge low. ⊎_elim
      (λ (before : level b < k). state.close a b a_below b_below edge before)
      (λ (on : k ≤ level b).
      omega (arith, state.passed a b a_below b_below edge (omega arith) (omega arith)))
      (cases_lt (level b) k);
  passed = λ a b a_below b_below edge on before. absurd (omega arith);
}

pub reached-gradual : (g : Multigraph) (q k u : ℕ) (level : ℕ → ℕ) → AreLevelsReached g q k u level → g.size ≤ k + 1 →
    IsGradual g q level
reached-gradual g q k u level state all = record {
  start = state.start;
  close = λ a b a_below b_below edge. ⊎_elim
      (λ (low : level b < k). state.close a b a_below b_below edge low)
      (λ (high : k ≤ level b). omega (arith, state.most a a_below))
      (cases_lt (level b) k);
}

pub levels-first : (g : Multigraph) (q n : ℕ) → q < g.size → n ≡ g.size → n ≤ 16 →
    AreLevelsReached g q 0 0 (slice_index (set (replicate 16 n) q 0))
levels-first g q n vertex whole few =
    reached-first g q (slice_index (set (replicate 16 n) q 0)) vertex
    (get_or-set_same (replicate 16 n) q 0 0 (omega (arith, length-replicate 16 n)))
    (λ v inside other. get_or-set_other (replicate 16 n) q v 0 0 other ∙ get_or-replicate 16 v n 0 (omega arith)
    ∙ whole)
