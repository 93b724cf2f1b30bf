-- Firing all vertices nearer to q than a level j, k times at once, to clear the debts of that level.
--   nearer level j          the set of the vertices of level below j
--   fired_nearer g level j k D   the divisor after that set has fired k times
--   if-le                   a number or none is at most the number
--   into-le-valence, out-le-valence   at most all edges of a vertex lead into a set, or out of it
--   farther_same            vertices of level above j keep their amounts
--   farther_stays           so one that was not in debt is not in debt
--   level_gains             vertices of level j gain at least k and at most 63 k
--   nearer_loses            vertices of level below j gain nothing and lose at most 63 k
--   changes_little          nobody gains or loses more than 63 k
use Rattle.dg_theory.proofs.Common.{if◌then◌else◌, ◌≡◌, ℕ, zero, suc, ◌+◌, ◌*◌, ◌<◌, ◌≤◌, Bool, true, false, arith, refl, ap, ◌∙◌, ⊎_elim, zero-mul, cases_eq, cases_lt, lt-ltb, le-ltb, ltb-true, ints, mul-le, pos, ◌+ℤ◌, ◌≤ℤ◌, nat_lt, nat_sum_below, Multigraph, edges_between, valence, Amounts, gain, fired, indicator, multiple, edges_out, edges_into, IsDistance}
use Rattle.dg_theory.proofs.Distances.{not_q}
use Rattle.dg_theory.proofs.TotalLaws.{nat_sum_below-le, nat_sum_below-term}
use Rattle.dg_theory.proofs.Multiples.{gain-all_inside, gain-all_outside}

abbrev pub nearer : (ℕ → ℕ) → ℕ → ℕ → Bool
nearer level j w = nat_lt (level w) j

abbrev pub fired_nearer : Multigraph → (ℕ → ℕ) → ℕ → ℕ → Amounts → Amounts
fired_nearer g level j k D = fired g D (multiple (pos k) (indicator (nearer level j)))

nat_sum_below-none : (n : ℕ) (f : ℕ → ℕ) → ((w : ℕ) → w < n → f w ≡ 0) → nat_sum_below n f ≡ 0
nat_sum_below-none zero f none = refl
nat_sum_below-none (suc n) f none =
    let before : nat_sum_below n f ≡ 0 = nat_sum_below-none n f (λ w below. none w (omega arith)) in
    let last : f n ≡ 0 = none n (omega arith) in
    omega arith

pub if-le : (b : Bool) (e : ℕ) → (if b then e else 0) ≤ e
if-le true e = omega arith
if-le false e = omega arith

else-le : (b : Bool) (e : ℕ) → (if b then 0 else e) ≤ e
else-le true e = omega arith
else-le false e = omega arith

if-none : (b : Bool) (e : ℕ) → (b ≡ true → e ≡ 0) → (if b then e else 0) ≡ 0
if-none true e none = none refl
if-none false e none = refl

pub into-le-valence : (g : Multigraph) (S : ℕ → Bool) (v : ℕ) → edges_into g S v ≤ valence g v
into-le-valence g S v = nat_sum_below-le g.size _ _ (λ w below. if-le (S w) (edges_between g v w))

pub out-le-valence : (g : Multigraph) (S : ℕ → Bool) (v : ℕ) → edges_out g S v ≤ valence g v
out-le-valence g S v = nat_sum_below-le g.size _ _ (λ w below. else-le (S w) (edges_between g v w))

pub farther_same : (g : Multigraph) (q : ℕ) (level : ℕ → ℕ) (j k : ℕ) (D : Amounts) (v : ℕ) → IsDistance g q level →
    v < g.size → j < level v → fired_nearer g level j k D v ≡ D v
farther_same g q level j k D v distance inside far =
    let outside : nearer level j v ≡ false = le-ltb (level v) j (omega arith) in
    let none : edges_into g (nearer level j) v ≡ 0 = nat_sum_below-none g.size _ (λ w below.
    if-none (nearer level j w) (edges_between g v w) (λ near.
    let low : level w < j = ltb-true (level w) j near in
    ⊎_elim
    (λ (same : edges_between g v w ≡ 0). same)
    (λ (some : edges_between g v w ≡ 0 → ⊥).
    let step : level v ≤ level w + 1 = distance.close v w inside below (omega arith) in absurd (omega arith))
    (cases_eq (edges_between g v w) 0))) in
    let got : gain g (multiple (pos k) (indicator (nearer level j))) v ≡ pos (edges_into g (nearer level j) v * k) =
    gain-all_outside g (pos k) (nearer level j) v outside in
    let nothing : edges_into g (nearer level j) v * k ≡ 0 = ap (λ (e : ℕ). e * k) none ∙ zero-mul k in
    omega (arith, ints)

pub farther_stays : (g : Multigraph) (q : ℕ) (level : ℕ → ℕ) (j k : ℕ) (D : Amounts) (v : ℕ) → IsDistance g q level →
    v < g.size → j < level v → pos 0 ≤ℤ D v → pos 0 ≤ℤ fired_nearer g level j k D v
farther_stays g q level j k D v distance inside far rich =
    let same : fired_nearer g level j k D v ≡ D v =
    farther_same g q level j k D v distance inside far in omega (arith, ints)

pub level_gains : (g : Multigraph) (q : ℕ) (level : ℕ → ℕ) (j k : ℕ) (D : Amounts) (v : ℕ) → IsDistance g q level →
    v < g.size → valence g v ≤ 63 → 0 < j → level v ≡ j →
    ((D v +ℤ pos k) ≤ℤ fired_nearer g level j k D v) × (fired_nearer g level j k D v ≤ℤ (D v +ℤ pos (63 * k)))
level_gains g q level j k D v distance inside few some at =
    let outside : nearer level j v ≡ false = le-ltb (level v) j (omega arith) in
    let (u, below, edge, step) = distance.stepped v inside (not_q g q level v distance (omega arith)) in
    let near : nearer level j u ≡ true = lt-ltb (level u) j (omega arith) in
    let term : (if nearer level j u then edges_between g v u else 0) ≤ edges_into g (nearer level j) v =
    nat_sum_below-term g.size (λ w. if nearer level j w then edges_between g v w else 0) u below in
    let counts : (if nearer level j u then edges_between g v u else 0) ≡ edges_between g v u =
    ap (λ b. if b then edges_between g v u else 0) near in
    let most : edges_into g (nearer level j) v ≤ valence g v = into-le-valence g (nearer level j) v in
    let high : edges_into g (nearer level j) v * k ≤ 63 * k =
    mul-le (edges_into g (nearer level j) v) k 63 k (omega arith) (omega arith) in
    let low : 1 * k ≤ edges_into g (nearer level j) v * k =
    mul-le 1 k (edges_into g (nearer level j) v) k (omega arith) (omega arith) in
    let got : gain g (multiple (pos k) (indicator (nearer level j))) v ≡ pos (edges_into g (nearer level j) v * k) =
    gain-all_outside g (pos k) (nearer level j) v outside in
    (omega (arith, ints), omega (arith, ints))

pub nearer_loses : (g : Multigraph) (level : ℕ → ℕ) (j k : ℕ) (D : Amounts) (v : ℕ) →
    valence g v ≤ 63 → level v < j →
    (fired_nearer g level j k D v ≤ℤ D v) × (D v ≤ℤ (fired_nearer g level j k D v +ℤ pos (63 * k)))
nearer_loses g level j k D v few near =
    let inner : nearer level j v ≡ true = lt-ltb (level v) j near in
    let most : edges_out g (nearer level j) v ≤ valence g v = out-le-valence g (nearer level j) v in
    let high : edges_out g (nearer level j) v * k ≤ 63 * k =
    mul-le (edges_out g (nearer level j) v) k 63 k (omega arith) (omega arith) in
    let lost : gain g (multiple (pos k) (indicator (nearer level j))) v +ℤ pos (edges_out g (nearer level j) v * k)
    ≡ pos 0 =
    gain-all_inside g (pos k) (nearer level j) v inner in
    (omega (arith, ints), omega (arith, ints))

pub changes_little : (g : Multigraph) (level : ℕ → ℕ) (j k : ℕ) (D : Amounts) (v : ℕ) → valence g v ≤ 63 →
    (fired_nearer g level j k D v ≤ℤ (D v +ℤ pos (63 * k))) × (D v ≤ℤ (fired_nearer g level j k D v +ℤ pos (63 * k)))
changes_little g level j k D v few =
    ⊎_elim
    (λ (near : level v < j). let (low, high) = nearer_loses g level j k D v few near in
    (omega (arith, ints), omega (arith, ints)))
    (λ (far : j ≤ level v).
    let outside : nearer level j v ≡ false = le-ltb (level v) j far in
    let most : edges_into g (nearer level j) v ≤ valence g v = into-le-valence g (nearer level j) v in
    let high : edges_into g (nearer level j) v * k ≤ 63 * k =
    mul-le (edges_into g (nearer level j) v) k 63 k (omega arith) (omega arith) in
    let got : gain g (multiple (pos k) (indicator (nearer level j))) v ≡ pos (edges_into g (nearer level j) v * k) =
    gain-all_outside g (pos k) (nearer level j) v outside in
    (omega (arith, ints), omega (arith, ints)))
    (cases_lt (level v) j)
