-- Weights of the vertices that every firing off q lowers, in a graph whose valences are at most 63 and whose
-- distances from q are at most 15.
--   as_script k            the script by which each vertex v lends k v times
--   IsPotential g q c      by the script c everybody off q loses at least a dollar, and c is 0 at q
--   level_weight j         64^14 + 64^13 + .., with j terms
--   weights level v        the weight of the level of v
--   level_weight-mono      a farther level weighs no less
--   step_ratio             each step outward adds 64 times as much weight as the next
--   pulled                 a sum over edges, one of which leads down by L and the others up by at most K
--   levels_pull            if one neighbour is lower by L > 63 K, and no neighbour higher by more than K, one loses
--   levels_are_potential   the weights by distance are such a potential
use Rattle.dg_theory.proofs.Common.{◌≡◌, ◌≢◌, ℕ, zero, suc, ◌+◌, ◌-◌, ◌*◌, ◌^◌, ◌<◌, ◌≤◌, arith, ap, suc-mul, add-mul, pow-suc, ⊎_elim, cases_eq, cases_lt, ints, mul-le, one-le-pow, ℤ, pos, ◌+ℤ◌, ◌-ℤ◌, ◌*ℤ◌, suc_ℤ-*ℤ, zero-*ℤ, ◌≤ℤ◌, sum_below, nat_sum_below, Multigraph, IsMultigraph, edges_between, valence, Amounts, gain, IsDistance}
use Rattle.dg_theory.proofs.SumBounds.{mul-once}
use Rattle.dg_theory.proofs.Distances.{level_positive}

abbrev pub level_weight : ℕ → ℕ
level_weight zero = 0
level_weight (suc j) = level_weight j + 64 ^ (14 - j)

abbrev pub weights : (ℕ → ℕ) → ℕ → ℕ
weights level v = level_weight (level v)

abbrev pub as_script : (ℕ → ℕ) → Amounts
as_script k w = pos (k w)

pub record IsPotential (g : Multigraph) (q : ℕ) (c : ℕ → ℕ) : Type 0 where
  pub none_at_q : c q ≡ 0
  pub loses : (v : ℕ) → v < g.size → v ≢ q → (gain g (as_script c) v +ℤ pos 1) ≤ℤ pos 0

pub level_weight-mono : (i j : ℕ) → i ≤ j → level_weight i ≤ level_weight j
level_weight-mono i zero less = let none : i ≡ 0 = omega arith in let same : level_weight i ≡ level_weight 0 =
    ap level_weight none in omega arith
level_weight-mono i (suc j) less =
    ⊎_elim
    (λ (same : i ≡ suc j). let at : level_weight i ≡ level_weight (suc j) = ap level_weight same in omega arith)
    (λ (other : i ≡ suc j → ⊥). let before : level_weight i ≤ level_weight j = level_weight-mono i j (omega arith) in
    omega arith)
    (cases_eq i (suc j))

pub step_ratio : (i : ℕ) → i < 14 → 64 ^ (14 - i) ≡ 64 * 64 ^ (14 - suc i)
step_ratio i few =
    let place : 14 - i ≡ suc (14 - suc i) = omega arith in
    let next : 64 ^ (14 - i) ≡ 64 ^ suc (14 - suc i) = ap (λ (x : ℕ). 64 ^ x) place in
    let power : 64 ^ suc (14 - suc i) ≡ 64 ^ (14 - suc i) * 64 = pow-suc 64 (14 - suc i) in
    omega arith

mul-at_most : (k K : ℕ) (x : ℤ) → x ≤ℤ pos K → (pos k *ℤ x) ≤ℤ pos (k * K)
mul-at_most zero K x high = omega (arith, ints, zero-*ℤ x)
mul-at_most (suc k) K x high = omega (arith, ints, suc_ℤ-*ℤ (pos k) x, suc-mul k K, mul-at_most k K x high)

edges-at_most : (k K : ℕ) (x : ℤ) → (0 < k → x ≤ℤ pos K) → (pos k *ℤ x) ≤ℤ pos (k * K)
edges-at_most zero K x high = omega (arith, ints, zero-*ℤ x)
edges-at_most (suc k) K x high = mul-at_most (suc k) K x (high (omega arith))

pushed : (n : ℕ) (e : ℕ → ℕ) (d : ℕ → ℤ) (K : ℕ) → ((w : ℕ) → w < n → 0 < e w → d w ≤ℤ pos K) →
    sum_below n (λ w. pos (e w) *ℤ d w) ≤ℤ pos (nat_sum_below n e * K)
pushed zero e d K high = omega (arith, ints)
pushed (suc n) e d K high =
    let before : sum_below n (λ w. pos (e w) *ℤ d w) ≤ℤ pos (nat_sum_below n e * K) =
    pushed n e d K (λ w below. high w (omega arith)) in
    let last : (pos (e n) *ℤ d n) ≤ℤ pos (e n * K) = edges-at_most (e n) K (d n) (high n (omega arith)) in
    let both : (nat_sum_below n e + e n) * K ≡ nat_sum_below n e * K + e n * K = add-mul (nat_sum_below n e) (e n) K in
    omega (arith, ints)

pub pulled : (n : ℕ) (e : ℕ → ℕ) (d : ℕ → ℤ) (K L u : ℕ) → ((w : ℕ) → w < n → 0 < e w → d w ≤ℤ pos K) →
    u < n → 0 < e u → (d u +ℤ pos L) ≤ℤ pos 0 →
    (sum_below n (λ w. pos (e w) *ℤ d w) +ℤ pos L) ≤ℤ pos (nat_sum_below n e * K)
pulled zero e d K L u high inside edge low = absurd (omega arith)
pulled (suc n) e d K L u high inside edge low =
    let both : (nat_sum_below n e + e n) * K ≡ nat_sum_below n e * K + e n * K = add-mul (nat_sum_below n e) (e n) K in
    ⊎_elim
    (λ (same : u ≡ n).
    let edges_at : e u ≡ e n = ap e same in
    let down_at : d u ≡ d n = ap d same in
    let before : sum_below n (λ w. pos (e w) *ℤ d w) ≤ℤ pos (nat_sum_below n e * K) =
    pushed n e d K (λ w below. high w (omega arith)) in
    let last : (pos (e n) *ℤ d n) ≤ℤ d n = mul-once (e n) (d n) (omega arith) (omega (arith, ints)) in
    omega (arith, ints))
    (λ (other : u ≡ n → ⊥).
    let before : (sum_below n (λ w. pos (e w) *ℤ d w) +ℤ pos L) ≤ℤ pos (nat_sum_below n e * K) =
    pulled n e d K L u (λ w below. high w (omega arith)) (omega arith) edge low in
    let last : (pos (e n) *ℤ d n) ≤ℤ pos (e n * K) = edges-at_most (e n) K (d n) (high n (omega arith)) in
    omega (arith, ints))
    (cases_eq u n)

pub levels_pull : (g : Multigraph) (c : ℕ → ℕ) (v u K L : ℕ) → valence g v ≤ 63 → 63 * K < L →
    u < g.size → 0 < edges_between g v u → c u + L ≤ c v →
    ((w : ℕ) → w < g.size → 0 < edges_between g v w → c w ≤ c v + K) → (gain g (as_script c) v +ℤ pos 1) ≤ℤ pos 0
levels_pull g c v u K L few steep inside edge low high =
    let sum : (gain g (as_script c) v +ℤ pos L) ≤ℤ pos (valence g v * K) =
    pulled g.size (edges_between g v) (λ w. pos (c w) -ℤ pos (c v)) K L u
    (λ w below joined. let at : c w ≤ c v + K = high w below joined in omega (arith, ints)) inside edge
    (omega (arith, ints)) in
    let most : valence g v * K ≤ 63 * K = mul-le (valence g v) K 63 K few (omega arith) in
    omega (arith, ints)

-- a vertex of level j + 1, where the next level may or may not be there
off_q_loses : (g : Multigraph) (q : ℕ) (level : ℕ → ℕ) (v j : ℕ) → IsMultigraph g → IsDistance g q level → g.size ≤ 16 →
    valence g v ≤ 63 → v < g.size → v ≢ q → level v ≡ suc j → (gain g (as_script (weights level)) v +ℤ pos 1) ≤ℤ pos 0
off_q_loses g q level v j graph distance small few inside other at =
    let (u, below, edge, step) = distance.stepped v inside other in
    let here_weight : weights level v ≡ level_weight j + 64 ^ (14 - j) = ap level_weight at in
    let near_level : level u ≡ j = omega arith in
    let near_weight : weights level u ≡ level_weight j = ap level_weight near_level in
    let last : level v < g.size = distance.few v inside in
    ⊎_elim
    (λ (inner : j < 14).
    let ratio : 64 ^ (14 - j) ≡ 64 * 64 ^ (14 - suc j) = step_ratio j inner in
    let some : 0 < 64 ^ (14 - suc j) = one-le-pow (14 - suc j) 64 (omega arith) in
    levels_pull g (weights level) v u (64 ^ (14 - suc j)) (64 ^ (14 - j)) few (omega arith) below edge (omega arith)
    (λ w in_w joined.
    let back : 0 < edges_between g w v = omega (arith, graph.symmetric v w) in
    let step_w : level w ≤ level v + 1 = distance.close w v in_w inside back in
    let most : weights level w ≤ level_weight (suc (suc j)) = level_weight-mono (level w) (suc (suc j)) (omega arith) in
    omega arith))
    (λ (outer : 14 ≤ j).
    let none : 14 - j ≡ 0 = omega arith in
    let one : 64 ^ (14 - j) ≡ 64 ^ 0 = ap (λ (x : ℕ). 64 ^ x) none in
    levels_pull g (weights level) v u 0 1 few (omega arith) below edge (omega arith)
    (λ w in_w joined.
    let last_w : level w < g.size = distance.few w in_w in
    let most : weights level w ≤ weights level v = level_weight-mono (level w) (level v) (omega arith) in
    omega arith))
    (cases_lt j 14)

pub levels_are_potential : (g : Multigraph) (q : ℕ) (level : ℕ → ℕ) → IsMultigraph g → IsDistance g q level →
    g.size ≤ 16 → ((v : ℕ) → v < g.size → valence g v ≤ 63) → IsPotential g q (weights level)
levels_are_potential g q level graph distance small few = record {
  none_at_q = ap level_weight distance.start;
  loses = λ v inside other.
      let far : 0 < level v = level_positive g q level v distance inside other in
      let some : level v ≡ suc (level v - 1) = omega arith in
      off_q_loses g q level v (level v - 1) graph distance small (few v inside) inside other some;
}
