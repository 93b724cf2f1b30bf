-- What light firings carry.
--   total-within   fewer terms have no larger total
--   total-past     nor have more terms, where those past a number are 0
--   small_held     a machine's value of a number below 2^31 is that number, which fits
--   light-valence  the edges of a vertex carry less than 2^30
--   light-edges    so do those between two vertices
--   light-flow     what a machine says that edges carry
--   light-sum      so do those between a vertex and the first others
use Rattle.dg_chips.proofs.Common.{◌≡◌, ℕ, zero, suc, ◌+◌, ◌*◌, ◌^◌, ◌<◌, ◌≤◌, ◌-◌, arith, ap, w32, FitsSigned, ◌∙◌, ⊎_elim, to_z, of_z, unsigned_abs, cases_eq, cases_lt, ints, mul-le-mul, ℤ, pos, ◌+ℤ◌, ◌*ℤ◌, sum_below, nat_sum_below, Multigraph, edges_between, valence, Amounts, abs-add, within_abs, nat_sum_below-term, IsGraph, GainsFitI32}
use Rattle.dg_chips.proofs.FlowLaws.{product_limit}

pub total-within : (f : ℕ → ℕ) (n m : ℕ) → n ≤ m → nat_sum_below n f ≤ nat_sum_below m f
total-within f n zero less = let same : n ≡ 0 = omega arith in rw same (omega arith)
total-within f n (suc m) less = ⊎_elim
    (λ (same : n ≡ suc m). rw same (omega arith))
    (λ (other : n ≡ suc m → ⊥).
    let before : nat_sum_below n f ≤ nat_sum_below m f = total-within f n m (omega arith) in
    omega arith)
    (cases_eq n (suc m))

total-past : (f : ℕ → ℕ) (n m : ℕ) → ((w : ℕ) → n ≤ w → f w ≡ 0) → nat_sum_below m f ≤ nat_sum_below n f
total-past f n zero none = omega arith
total-past f n (suc m) none = ⊎_elim
    (λ (inside : m < n). total-within f (suc m) n (omega arith))
    (λ (past : n ≤ m).
    let before : nat_sum_below m f ≤ nat_sum_below n f = total-past f n m none in
    omega (arith, none m past))
    (cases_lt m n)

pub small_held : (z : ℤ) → unsigned_abs z < 2 ^ 31 → FitsSigned w32 z × (to_z w32 (of_z w32 z) ≡ z)
small_held z small =
    let (low, high) = within_abs z (2 ^ 31 - 1) (omega arith) in
    (omega (arith, ints), omega (arith, ints))

pub light-valence : (g : Multigraph) (s : Amounts) (v u : ℕ) → GainsFitI32 g s → valence g v * unsigned_abs (s u) < 2 ^ 30
light-valence g s v u light =
    let most : valence g v * unsigned_abs (s u) ≤ valence g v * light.most =
    mul-le-mul (omega arith) (light.within u) in
    omega (arith, light.room v)

pub light-edges : (g : Multigraph) (s : Amounts) (v w u : ℕ) → IsGraph g → GainsFitI32 g s →
    edges_between g v w * unsigned_abs (s u) < 2 ^ 30
light-edges g s v w u graph light =
    let few : edges_between g v w ≤ valence g v = ⊎_elim
    (λ (inside : w < g.size). nat_sum_below-term g.size (edges_between g v) w inside)
    (λ (past : g.size ≤ w). omega (arith, graph.multigraph.inside v w past))
    (cases_lt w g.size) in
    let most : edges_between g v w * unsigned_abs (s u) ≤ valence g v * unsigned_abs (s u) =
    mul-le-mul few (omega arith) in
    omega (arith, light-valence g s v u light)

pub light-flow : (k e : ℕ) (each flow : ℤ) → k * unsigned_abs each < 2 ^ 30 → unsigned_abs each < 2 ^ 31 → e ≡ k →
    flow ≡ pos e *ℤ to_z w32 (of_z w32 each) → (flow ≡ pos k *ℤ each) × (unsigned_abs flow < 2 ^ 30)
light-flow k e each flow light small same value =
    let is : flow ≡ pos k *ℤ each =
    value ∙ ap (λ (z : ℤ). pos e *ℤ z) (small_held each small).1 ∙ ap (λ (n : ℕ). pos n *ℤ each) same in
    let most : unsigned_abs (pos k *ℤ each) ≤ k * unsigned_abs each =
    product_limit k k each (unsigned_abs each) (omega arith) (omega arith) in
    (is, rw is (omega arith))

sum_limit : (e : ℕ → ℕ) (s : Amounts) (most n : ℕ) → ((w : ℕ) → unsigned_abs (s w) ≤ most) →
    unsigned_abs (sum_below n (λ w. pos (e w) *ℤ s w)) ≤ nat_sum_below n e * most
sum_limit e s most zero small = omega arith
sum_limit e s most (suc n) small =
    let all : unsigned_abs (sum_below n (λ w. pos (e w) *ℤ s w) +ℤ pos (e n) *ℤ s n)
    ≤ nat_sum_below n e * most + e n * most =
    abs-add (sum_below n (λ w. pos (e w) *ℤ s w)) (pos (e n) *ℤ s n) (nat_sum_below n e * most) (e n * most)
    (sum_limit e s most n small) (product_limit (e n) (e n) (s n) most (omega arith) (small n)) in
    omega arith

pub light-sum : (g : Multigraph) (s : Amounts) (v n : ℕ) → IsGraph g → GainsFitI32 g s →
    unsigned_abs (sum_below n (λ w. pos (edges_between g v w) *ℤ s w)) < 2 ^ 30
light-sum g s v n graph light =
    let some : unsigned_abs (sum_below n (λ w. pos (edges_between g v w) *ℤ s w))
    ≤ nat_sum_below n (edges_between g v) * light.most =
    sum_limit (edges_between g v) s light.most n light.within in
    let few : nat_sum_below n (edges_between g v) ≤ valence g v =
    total-past (edges_between g v) g.size n (graph.multigraph.inside v) in
    let most : nat_sum_below n (edges_between g v) * light.most ≤ valence g v * light.most =
    mul-le-mul few (omega arith) in
    omega (arith, light.room v)
