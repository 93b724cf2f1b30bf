-- An order of the vertices in which each but q comes after one of its neighbours.
--   IsOrder g q S place n   q is in the set S and has place 0; each other vertex of S has a neighbour in S of an
--                           earlier place; and all places in S are below n
--   order_start             the set of q alone has such an order
--   order_next              a neighbour of a vertex of S can be added, at the place n
--   order_exists            so in a multigraph all vertices have such an order
use Rattle.dg_theory.proofs.Common.{if◌then◌else◌, ◌≡◌, ◌≢◌, ℕ, zero, suc, ◌<◌, ◌≤◌, ◌==◌, Bool, true, false, not, arith, refl, sym, ap, ◌∙◌, ⊎_elim, cases_eq, eqb-true, both_ways, not-true, not-false, not_from_false, not_from_true, true_from_ne_false, false_from_ne_true, nat_tests, Multigraph, IsMultigraph, edges_between}
use Rattle.dg_theory.proofs.Climbs.{Leaves, IsConnectedTo-leaves}
use Rattle.dg_theory.proofs.Counting.{count_of, count_of-some, count_of-more, member_or_none}

pub record IsOrder (g : Multigraph) (q : ℕ) (S : ℕ → Bool) (place : ℕ → ℕ) (n : ℕ) : Type 0 where
  pub start : S q ≡ true
  pub first : place q ≡ 0
  pub before : (v : ℕ) → S v ≡ true → place v < n
  pub after : (v : ℕ) → S v ≡ true → v ≢ q →
      (u : ℕ) × (u < g.size) × (S u ≡ true) × (0 < edges_between g v u) × (place u < place v)

abbrev added : (ℕ → Bool) → ℕ → ℕ → Bool
added S b w = if w == b then true else S w

abbrev placed : (ℕ → ℕ) → ℕ → ℕ → ℕ → ℕ
placed place b n w = if w == b then n else place w

added-here : (S : ℕ → Bool) (b : ℕ) → added S b b ≡ true
added-here S b = grind (arith, nat_tests)

added-other : (S : ℕ → Bool) (b w : ℕ) → w ≢ b → added S b w ≡ S w
added-other S b w other = grind (arith, nat_tests)

placed-here : (place : ℕ → ℕ) (b n : ℕ) → placed place b n b ≡ n
placed-here place b n = grind (arith, nat_tests)

placed-other : (place : ℕ → ℕ) (b n w : ℕ) → w ≢ b → placed place b n w ≡ place w
placed-other place b n w other = grind (arith, nat_tests)

added-kept : (S : ℕ → Bool) (b w : ℕ) → added S b w ≡ false → S w ≡ false
added-kept S b w missing = false_from_ne_true (S w) (λ member.
    ⊎_elim
    (λ (same : w ≡ b). both_ways _ missing (ap (added S b) same ∙ added-here S b))
    (λ (other : w ≡ b → ⊥). both_ways _ missing (added-other S b w other ∙ member))
    (cases_eq w b))

order_start : (g : Multigraph) (q : ℕ) → IsOrder g q (λ w. w == q) (λ _. 0) 1
order_start g q = record {
  start = grind (arith, nat_tests);
  first = refl;
  before = λ v _. omega arith;
  after = λ v member other. absurd (other (eqb-true v q member));
}

order_next : (g : Multigraph) (q : ℕ) (S : ℕ → Bool) (place : ℕ → ℕ) (n a b : ℕ) → IsMultigraph g →
    IsOrder g q S place n →
    a < g.size → S a ≡ true → S b ≡ false → 0 < edges_between g a b → IsOrder g q (added S b) (placed place b n) (suc n)
order_next g q S place n a b graph order from within outside edge =
    let apart : (w : ℕ) → S w ≡ true → w ≢ b = λ w member same. both_ways _ outside (ap S (sym same) ∙ member) in
    let stays : (w : ℕ) → S w ≡ true → added S b w ≡ true = λ w member. added-other S b w (apart w member) ∙ member in
    let old : (w : ℕ) → S w ≡ true → placed place b n w ≡ place w =
    λ w member. placed-other place b n w (apart w member) in
    record {
      start = stays q order.start;
      first = old q order.start ∙ order.first;
      before = λ v member. ⊎_elim
          (λ (same : v ≡ b). let at : placed place b n v ≡ n = ap (placed place b n) same ∙ placed-here place b n in
          omega arith)
          (λ (other : v ≡ b → ⊥).
          let known : S v ≡ true = sym (added-other S b v other) ∙ member in
          omega (arith, old v known, order.before v known))
          (cases_eq v b);
      after = λ v member off_q. ⊎_elim
          (λ (same : v ≡ b).
          let at : placed place b n v ≡ n = ap (placed place b n) same ∙ placed-here place b n in
          let edges : edges_between g v a ≡ edges_between g a b =
          ap (λ (x : ℕ). edges_between g x a) same ∙ graph.symmetric b a in
          (a, from, stays a within, omega arith, omega (arith, old a within, order.before a within)))
          (λ (other : v ≡ b → ⊥).
          let known : S v ≡ true = sym (added-other S b v other) ∙ member in
          let (u, below, in_u, joined, earlier) = order.after v known off_q in
          (u, below, stays u in_u, joined, omega (arith, old u in_u, old v known)))
          (cases_eq v b);
    }

-- with k vertices at most outside S
order_grows : (g : Multigraph) (q : ℕ) → IsMultigraph g → q < g.size → (k : ℕ) (S : ℕ → Bool) (place : ℕ → ℕ) (n : ℕ) →
    count_of g.size (λ w. not (S w)) ≤ k → IsOrder g q S place n →
    (T : ℕ → Bool) × (later : ℕ → ℕ) × (m : ℕ) × IsOrder g q T later m × ((w : ℕ) → w < g.size → T w ≡ true)
order_grows g q graph vertex zero S place n few order = (
  S,
  place,
  n,
  order,
  λ w below. true_from_ne_false (S w) (λ out.
      absurd (omega (arith, count_of-some g.size (λ u. not (S u)) w below (not_from_false _ out)))),
)
order_grows g q graph vertex (suc k) S place n few order =
    ⊎_elim
    (λ (some : (u : ℕ) × (u < g.size) × (not (S u) ≡ true)).
    let out : Leaves g.size (edges_between g) S =
    IsConnectedTo-leaves S vertex order.start (graph.connected q some.0 vertex some.1) (not-true _ some.2) in
    let fewer : count_of g.size (λ w. not (added S out.b w)) < count_of g.size (λ w. not (S w)) =
    count_of-more g.size (λ w. not (added S out.b w)) (λ w. not (S w))
    (λ w missing. not_from_false _ (added-kept S out.b w (not-true _ missing)))
    out.b out.to (not_from_true _ (added-here S out.b)) (not_from_false _ out.outside) in
    order_grows g q graph vertex k (added S out.b) (placed place out.b n) (suc n) (omega arith)
    (order_next g q S place n out.a out.b graph order out.from out.within out.outside out.edge))
    (λ (none : (u : ℕ) → u < g.size → not (S u) ≡ false). (S, place, n, order, λ w below. not-false _ (none w below)))
    (member_or_none g.size (λ w. not (S w)))

pub order_exists : (g : Multigraph) (q : ℕ) → IsMultigraph g → q < g.size →
    (T : ℕ → Bool) × (place : ℕ → ℕ) × (n : ℕ) × IsOrder g q T place n × ((w : ℕ) → w < g.size → T w ≡ true)
order_exists g q graph vertex =
    order_grows g q graph vertex (count_of g.size (λ w. not (w == q))) (λ w. w == q) (λ _. 0) 1 (omega arith)
    (order_start g q)
