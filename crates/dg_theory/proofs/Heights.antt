-- A potential for any multigraph, from an order of its vertices in which each but q comes after a neighbour.
--   height M k       what weighs k steps up: each step is M times all below it, and 1 more
--   height-mono      more steps weigh no less
--   height-next      and one step more weighs over M times as much more
--   sum_of_valences  the sum of all valences, which bounds each
--   weight_at        the weight of a place in an order of n places: the height of n less that of the places from there
--                    on
--   order_potential  the weights by the places of such an order are a potential for q
--   has_potential    so every multigraph has one for each of its vertices
use Rattle.dg_theory.proofs.Common.{◌≡◌, ℕ, zero, suc, ◌+◌, ◌-◌, ◌*◌, ◌<◌, ◌≤◌, Bool, true, arith, ap, ⊎_elim, cases_eq, ints, mul-le, pos, ◌+ℤ◌, ◌-ℤ◌, ◌≤ℤ◌, nat_sum_below, Multigraph, IsMultigraph, edges_between, valence, gain}
use Rattle.dg_theory.proofs.TotalLaws.{nat_sum_below-term}
use Rattle.dg_theory.proofs.Potential.{IsPotential, as_script, pulled}
use Rattle.dg_theory.proofs.Orders.{IsOrder, order_exists}

abbrev pub height : ℕ → ℕ → ℕ
height M zero = 0
height M (suc k) = height M k + (M * height M k + 1)

pub height-mono : (M i j : ℕ) → i ≤ j → height M i ≤ height M j
height-mono M i zero less =
    let none : i ≡ 0 = omega arith in let same : height M i ≡ height M 0 = ap (height M) none in omega arith
height-mono M i (suc j) less =
    ⊎_elim
    (λ (same : i ≡ suc j). let at : height M i ≡ height M (suc j) = ap (height M) same in omega arith)
    (λ (other : i ≡ suc j → ⊥).
    let before : height M i ≤ height M j = height-mono M i j (omega arith) in omega arith)
    (cases_eq i (suc j))

pub height-next : (M i j : ℕ) → i < j → height M i + (M * height M i + 1) ≤ height M j
height-next M i j less =
    let next : height M (suc i) ≤ height M j = height-mono M (suc i) j (omega arith) in omega arith

abbrev pub sum_of_valences : Multigraph → ℕ
sum_of_valences g = nat_sum_below g.size (valence g)

abbrev pub weight_at : Multigraph → ℕ → ℕ → ℕ
weight_at g n i = height (sum_of_valences g) n - height (sum_of_valences g) (n - i)

-- a vertex v with a neighbour u of an earlier place
later_loses : (g : Multigraph) (place : ℕ → ℕ) (n u v : ℕ) → u < g.size → v < g.size → 0 < edges_between g v u →
    place u < place v → place v ≤ n → (gain g (as_script (λ w. weight_at g n (place w))) v +ℤ pos 1) ≤ℤ pos 0
later_loses g place n u v below inside edge earlier few =
    let M : ℕ = sum_of_valences g in
    let K : ℕ = height M (n - place v) in
    let top : height M (n - place v) ≤ height M n = height-mono M (n - place v) n (omega arith) in
    let top_u : height M (n - place u) ≤ height M n = height-mono M (n - place u) n (omega arith) in
    let steep : K + (M * K + 1) ≤ height M (n - place u) = height-next M (n - place v) (n - place u) (omega arith) in
    let sum : (gain g (as_script (λ w. weight_at g n (place w))) v +ℤ pos (M * K + 1)) ≤ℤ pos (valence g v * K) =
    pulled g.size (edges_between g v) (λ w. pos (weight_at g n (place w)) -ℤ pos (weight_at g n (place v))) K
    (M * K + 1) u
    (λ w _ _. omega (arith, ints)) below edge (omega (arith, ints)) in
    let few_edges : valence g v ≤ M = nat_sum_below-term g.size (valence g) v inside in
    let most : valence g v * K ≤ M * K = mul-le (valence g v) K M K few_edges (omega arith) in
    omega (arith, ints)

pub order_potential : (g : Multigraph) (q : ℕ) (S : ℕ → Bool) (place : ℕ → ℕ) (n : ℕ) → IsOrder g q S place n →
    ((w : ℕ) → w < g.size → S w ≡ true) → IsPotential g q (λ w. weight_at g n (place w))
order_potential g q S place n order all = record {
  none_at_q =
      let first : n - place q ≡ n = omega (arith, order.first) in
      let same : height (sum_of_valences g) (n - place q) ≡ height (sum_of_valences g) n =
      ap (height (sum_of_valences g)) first in
      omega arith;
  loses = λ v inside other.
      let (u, below, in_u, edge, earlier) = order.after v (all v inside) other in
      later_loses g place n u v below inside edge earlier (omega (arith, order.before v (all v inside)));
}

pub has_potential : (g : Multigraph) (q : ℕ) → IsMultigraph g → q < g.size → (c : ℕ → ℕ) × IsPotential g q c
has_potential g q graph vertex =
    let (T, place, n, order, all) = order_exists g q graph vertex in
    (λ w. weight_at g n (place w), order_potential g q T place n order all)
