-- Counting the vertices of a set.
--   nat_sum_below-less   if no term is larger and one is smaller, the sum is smaller
--   count_of n S       how many numbers below n are in S
--   count_of-some      a set with a member has at least one
--   count_of-more      a set with one member more has more
--   count_of-missing   a set in which a number below n is missing has fewer than n
--   member_or_none     a set has a member below n, or none
use Rattle.dg_theory.proofs.Common.{if◌then◌else◌, ◌≡◌, ℕ, zero, suc, ◌<◌, ◌≤◌, arith, refl, ap, ◌∙◌, ◌⊎◌, inl, inr, ⊎_elim, Bool, true, false, cases_eq, cases_Bool, nat_sum_below}
use Rattle.dg_theory.proofs.TotalLaws.{nat_sum_below-le, nat_sum_below-term}

pub nat_sum_below-less : (n : ℕ) (f h : ℕ → ℕ) → ((w : ℕ) → w < n → f w ≤ h w) → (v : ℕ) → v < n → f v < h v →
    nat_sum_below n f < nat_sum_below n h
nat_sum_below-less zero f h less v inside here_less = absurd (omega arith)
nat_sum_below-less (suc n) f h less v inside here_less =
    let fewer : (w : ℕ) → w < n → f w ≤ h w = λ w below. less w (omega arith) in
    let last : f n ≤ h n = less n (omega arith) in
    ⊎_elim
    (λ (same : v ≡ n).
    let before : nat_sum_below n f ≤ nat_sum_below n h = nat_sum_below-le n f h fewer in
    let at : f v ≡ f n = ap f same in let at' : h v ≡ h n = ap h same in omega arith)
    (λ (other : v ≡ n → ⊥).
    let before : nat_sum_below n f < nat_sum_below n h = nat_sum_below-less n f h fewer v (omega arith) here_less in
    omega arith)
    (cases_eq v n)

abbrev pub one_if : Bool → ℕ
one_if b = if b then 1 else 0

abbrev pub count_of : ℕ → (ℕ → Bool) → ℕ
count_of n S = nat_sum_below n (λ w. one_if (S w))

one_if-le : (b c : Bool) → (b ≡ true → c ≡ true) → one_if b ≤ one_if c
one_if-le true c kept = let at : one_if c ≡ 1 = ap one_if (kept refl) in omega arith
one_if-le false c kept = omega arith

total_ones : (n : ℕ) → nat_sum_below n (λ w. 1) ≡ n
total_ones zero = refl
total_ones (suc n) = omega (arith, total_ones n)

pub count_of-some : (n : ℕ) (S : ℕ → Bool) (v : ℕ) → v < n → S v ≡ true → 1 ≤ count_of n S
count_of-some n S v inside member =
    let term : one_if (S v) ≤ count_of n S = nat_sum_below-term n (λ w. one_if (S w)) v inside in
    let at : one_if (S v) ≡ 1 = ap one_if member in
    omega arith

pub count_of-more : (n : ℕ) (S T : ℕ → Bool) → ((w : ℕ) → S w ≡ true → T w ≡ true) →
    (v : ℕ) → v < n → S v ≡ false → T v ≡ true → count_of n S < count_of n T
count_of-more n S T kept v inside missing member =
    let off : one_if (S v) ≡ 0 = ap one_if missing in
    let on : one_if (T v) ≡ 1 = ap one_if member in
    nat_sum_below-less n (λ w. one_if (S w)) (λ w. one_if (T w)) (λ w _. one_if-le (S w) (T w) (kept w)) v inside
    (omega arith)

pub count_of-missing : (n : ℕ) (S : ℕ → Bool) (v : ℕ) → v < n → S v ≡ false → count_of n S < n
count_of-missing n S v inside missing =
    let more : count_of n S < nat_sum_below n (λ w. 1) =
    count_of-more n S (λ _. true) (λ w _. refl) v inside missing refl in
    omega (arith, total_ones n)

pub member_or_none : (n : ℕ) (S : ℕ → Bool) →
    ((u : ℕ) × (u < n) × (S u ≡ true)) ⊎ ((u : ℕ) → u < n → S u ≡ false)
member_or_none zero S = inr (λ u below. absurd (omega arith))
member_or_none (suc n) S =
    ⊎_elim
    (λ (here : S n ≡ true). inl (n, omega arith, here))
    (λ (not_here : S n ≡ false).
    ⊎_elim
    (λ (some : (u : ℕ) × (u < n) × (S u ≡ true)). inl (some.0, omega (arith, some.1), some.2))
    (λ (none : (u : ℕ) → u < n → S u ≡ false). inr (λ u below.
    ⊎_elim
    (λ (same : u ≡ n). ap S same ∙ not_here)
    (λ (other : u ≡ n → ⊥). none u (omega arith))
    (cases_eq u n)))
    (member_or_none n S))
    (cases_Bool (S n))
