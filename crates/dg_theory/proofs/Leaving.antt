-- A set S of numbers that one after another leave. An edge counts as burnt as soon as both its ends are outside S.
--   removed S v            the set S without v
--   removed-here           v is not in it
--   removed-other          a number other than v is in it exactly where it is in S
--   removed-of             what is in it is in S
--   burnt_edges n e S      how many edges join two numbers below n outside S, where e tells the edges
--   burnt_weight n R S     the sum of R + 1 over the numbers below n outside S
--   burnt_edges-removed    if v leaves S, the edges that lead from v out of S are burnt, and no others
--   burnt_weight-removed   if v leaves S, the weight grows by R v + 1
--   burnt_edges-all        if none is left in S, all edges are burnt, each pair of numbers counted once
--   burnt_weight-all       if none is left in S, the weight is the sum of R and the number of terms
use Rattle.dg_theory.proofs.Common.{if◌then◌else◌, ◌≡◌, ◌≢◌, ℕ, zero, suc, ◌+◌, ◌<◌, ◌≤◌, ◌==◌, Bool, true, false, arith, refl, sym, ap, ◌∙◌, ⊎_elim, ints, cases_eq, both_ways, nat_tests, ℤ, pos, ◌+ℤ◌, sum_below, nat_sum_below, Amounts, degree}
use Rattle.dg_theory.proofs.TotalLaws.{nat_sum_below-cong, nat_sum_below-differ_at}
use Rattle.dg_theory.proofs.SumLaws.{sum_below-cong, sum_below-differ_at}

abbrev pub removed : (ℕ → Bool) → ℕ → ℕ → Bool
removed S v w = if w == v then false else S w

pub removed-here : (S : ℕ → Bool) (v : ℕ) → removed S v v ≡ false
removed-here S v = grind (arith, nat_tests)

pub removed-other : (S : ℕ → Bool) (v w : ℕ) → w ≢ v → removed S v w ≡ S w
removed-other S v w other = grind (arith, nat_tests)

pub removed-of : (S : ℕ → Bool) (v w : ℕ) → removed S v w ≡ true → S w ≡ true
removed-of S v w member =
    ⊎_elim
    (λ (same : w ≡ v). absurd (both_ways _ (removed-here S v) (ap (removed S v) (sym same) ∙ member)))
    (λ (other : w ≡ v → ⊥). sym (removed-other S v w other) ∙ member)
    (cases_eq w v)

-- a number that counts outside a set
abbrev off : Bool → ℕ → ℕ
off b k = if b then 0 else k

abbrev off_z : Bool → ℤ → ℤ
off_z b x = if b then pos 0 else x

abbrev pub burnt_edges : ℕ → (ℕ → ℕ → ℕ) → (ℕ → Bool) → ℕ
burnt_edges n e S = nat_sum_below n (λ u. off (S u) (nat_sum_below u (λ w. off (S w) (e u w))))

abbrev pub burnt_weight : ℕ → Amounts → (ℕ → Bool) → ℤ
burnt_weight n R S = sum_below n (λ w. off_z (S w) (R w +ℤ pos 1))

-- a total over what is outside S, if v leaves S
outside_total : (n : ℕ) (S : ℕ → Bool) (v : ℕ) (k : ℕ → ℕ) → v < n → S v ≡ true →
    nat_sum_below n (λ w. off (removed S v w) (k w)) ≡ nat_sum_below n (λ w. off (S w) (k w)) + k v
outside_total n S v k inside member =
    let both : nat_sum_below n (λ w. off (removed S v w) (k w)) + off (S v) (k v)
    ≡ nat_sum_below n (λ w. off (S w) (k w)) + off (removed S v v) (k v)
    = nat_sum_below-differ_at n (λ w. off (removed S v w) (k w)) (λ w. off (S w) (k w)) v inside
    (λ w _ other. ap (λ (b : Bool). off b (k w)) (removed-other S v w other)) in
    let here : off (removed S v v) (k v) ≡ k v = ap (λ (b : Bool). off b (k v)) (removed-here S v) in
    let gone : off (S v) (k v) ≡ 0 = ap (λ (b : Bool). off b (k v)) member in
    omega arith

-- a total over what is outside S, for numbers that do not reach v
outside_total-before : (n : ℕ) (S : ℕ → Bool) (v : ℕ) (k : ℕ → ℕ) → n ≤ v →
    nat_sum_below n (λ w. off (removed S v w) (k w)) ≡ nat_sum_below n (λ w. off (S w) (k w))
outside_total-before n S v k past =
    nat_sum_below-cong n _ _ (λ w below. ap (λ (b : Bool). off b (k w)) (removed-other S v w (omega arith)))

burnt_edges-before : (n : ℕ) (e : ℕ → ℕ → ℕ) (S : ℕ → Bool) (v : ℕ) → n ≤ v →
    burnt_edges n e (removed S v) ≡ burnt_edges n e S
burnt_edges-before n e S v past =
    nat_sum_below-cong n _ _ (λ u below.
    ap (λ (b : Bool). off b (nat_sum_below u (λ w. off (removed S v w) (e u w)))) (removed-other S v u (omega arith))
    ∙ ap (off (S u)) (outside_total-before u S v (e u) (omega arith)))

burnt_edges-last : (n : ℕ) (e : ℕ → ℕ → ℕ) (S : ℕ → Bool) → S n ≡ true →
    burnt_edges (suc n) e (removed S n) ≡ burnt_edges (suc n) e S + nat_sum_below (suc n) (λ w. off (S w) (e n w))
burnt_edges-last n e S member =
    let before : burnt_edges n e (removed S n) ≡ burnt_edges n e S = burnt_edges-before n e S n (omega arith) in
    let row : off (removed S n n) (nat_sum_below n (λ w. off (removed S n w) (e n w)))
    ≡ nat_sum_below n (λ w. off (S w) (e n w)) =
    ap (λ (b : Bool). off b (nat_sum_below n (λ w. off (removed S n w) (e n w)))) (removed-here S n)
    ∙ outside_total-before n S n (e n) (omega arith) in
    let none : off (S n) (nat_sum_below n (λ w. off (S w) (e n w))) ≡ 0 =
    ap (λ (b : Bool). off b (nat_sum_below n (λ w. off (S w) (e n w)))) member in
    let corner : off (S n) (e n n) ≡ 0 = ap (λ (b : Bool). off b (e n n)) member in
    omega arith

off-add : (b : Bool) (x y z : ℕ) → y ≡ z → off b (x + y) ≡ off b x + off b z
off-add true x y z same = refl
off-add false x y z same = omega arith

pub burnt_edges-removed : (n : ℕ) (e : ℕ → ℕ → ℕ) (S : ℕ → Bool) (v : ℕ) → ((a b : ℕ) → e a b ≡ e b a) → v < n →
    S v ≡ true → burnt_edges n e (removed S v) ≡ burnt_edges n e S + nat_sum_below n (λ w. off (S w) (e v w))
burnt_edges-removed zero e S v symmetric inside member = absurd (omega arith)
burnt_edges-removed (suc n) e S v symmetric inside member =
    ⊎_elim
    (λ (same : v ≡ n). let at : S n ≡ true = sym (ap S same) ∙ member in rw same (burnt_edges-last n e S at))
    (λ (other : v ≡ n → ⊥).
    let before : burnt_edges n e (removed S v) ≡ burnt_edges n e S + nat_sum_below n (λ w. off (S w) (e v w)) =
    burnt_edges-removed n e S v symmetric (omega arith) member in
    let row : off (removed S v n) (nat_sum_below n (λ w. off (removed S v w) (e n w)))
    ≡ off (S n) (nat_sum_below n (λ w. off (S w) (e n w))) + off (S n) (e v n) =
    ap (λ (b : Bool). off b (nat_sum_below n (λ w. off (removed S v w) (e n w)))) (removed-other S v n (omega arith))
    ∙ (ap (off (S n)) (outside_total n S v (e n) (omega arith) member)
    ∙ off-add (S n) (nat_sum_below n (λ w. off (S w) (e n w))) (e n v) (e v n) (symmetric n v)) in
    omega arith)
    (cases_eq v n)

pub burnt_weight-removed : (n : ℕ) (R : Amounts) (S : ℕ → Bool) (v : ℕ) → v < n → S v ≡ true →
    burnt_weight n R (removed S v) ≡ burnt_weight n R S +ℤ (R v +ℤ pos 1)
burnt_weight-removed n R S v inside member =
    let both : burnt_weight n R (removed S v) +ℤ off_z (S v) (R v +ℤ pos 1)
    ≡ burnt_weight n R S +ℤ off_z (removed S v v) (R v +ℤ pos 1)
    = sum_below-differ_at n (λ w. off_z (removed S v w) (R w +ℤ pos 1)) (λ w. off_z (S w) (R w +ℤ pos 1)) v inside
    (λ w _ other. ap (λ (b : Bool). off_z b (R w +ℤ pos 1)) (removed-other S v w other)) in
    let here : off_z (removed S v v) (R v +ℤ pos 1) ≡ R v +ℤ pos 1 =
    ap (λ (b : Bool). off_z b (R v +ℤ pos 1)) (removed-here S v) in
    let gone : off_z (S v) (R v +ℤ pos 1) ≡ pos 0 = ap (λ (b : Bool). off_z b (R v +ℤ pos 1)) member in
    omega (arith, ints)

-- the weight of all vertices
sum_below-plus_one : (n : ℕ) (R : Amounts) → sum_below n (λ w. R w +ℤ pos 1) ≡ sum_below n R +ℤ pos n
sum_below-plus_one zero R = refl
sum_below-plus_one (suc n) R = omega (arith, ints, sum_below-plus_one n R)

pub burnt_weight-all : (n : ℕ) (R : Amounts) (S : ℕ → Bool) → ((w : ℕ) → w < n → S w ≡ false) →
    burnt_weight n R S ≡ degree n R +ℤ pos n
burnt_weight-all n R S none =
    sum_below-cong n _ _ (λ w below. ap (λ (b : Bool). off_z b (R w +ℤ pos 1)) (none w below)) ∙ sum_below-plus_one n R

pub burnt_edges-all : (n : ℕ) (e : ℕ → ℕ → ℕ) (S : ℕ → Bool) → ((w : ℕ) → w < n → S w ≡ false) →
    burnt_edges n e S ≡ nat_sum_below n (λ u. nat_sum_below u (e u))
burnt_edges-all n e S none =
    nat_sum_below-cong n _ _ (λ u below.
    ap (λ (b : Bool). off b (nat_sum_below u (λ w. off (S w) (e u w)))) (none u below)
    ∙ nat_sum_below-cong u _ _ (λ w under. ap (λ (b : Bool). off b (e u w)) (none w (omega arith))))
