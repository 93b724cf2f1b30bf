-- The numbers of trials, by two identities of Pascal's triangle.
--   one_place     on one place there is one trial of each degree
--   count_more    trials are those that hold nothing at the first place and those that hold something there
--   no_dollar     of degree 0 there is one trial
--   count_one_more   on one place more there are no fewer trials
--   count_grows   on more places there are no fewer trials
--   count_grows_by_degree   of a greater degree there are no fewer trials, on one place or more
--   count_next    on p + 1 places there are (k + p) / p times as many trials of degree k as on p places
use Rattle.dg_rank.proofs.Common.{◌≡◌, ℕ, zero, suc, ◌+◌, ◌*◌, ◌/◌, ◌<◌, ◌≤◌, arith, refl, ap, ⊎_elim, add-one, mul-div_cancel_left, cases_lt}
use Rattle.dg_rank.specs.Numbering.{count_with_place, trial_count}

pub one_place : (k : ℕ) → trial_count 1 k ≡ 1
unfolding count_with_place trial_count
one_place zero = refl
one_place (suc k) = omega (arith, one_place k)

pub count_more : (n k : ℕ) → trial_count (suc n) (suc k) ≡ trial_count n (suc k) + trial_count (suc n) k
unfolding count_with_place trial_count
count_more n k = refl

pub no_dollar : (n : ℕ) → trial_count n 0 ≡ 1
unfolding count_with_place trial_count
no_dollar zero = refl
no_dollar (suc n) = no_dollar n

pub count_one_more : (n k : ℕ) → trial_count n k ≤ trial_count (suc n) k
count_one_more n zero = omega (arith, no_dollar n, no_dollar (suc n))
count_one_more n (suc k) = omega (arith, count_more n k)

pub count_grows : (n m k : ℕ) → n ≤ m → trial_count n k ≤ trial_count m k
count_grows n zero k less = let same : n ≡ 0 = omega arith in omega (arith, ap (λ (i : ℕ). trial_count i k) same)
count_grows n (suc m) k less = ⊎_elim
    (λ (low : n < suc m).
    let before : trial_count n k ≤ trial_count m k = count_grows n m k (omega arith) in
    omega (arith, before, count_one_more m k))
    (λ (high : suc m ≤ n). let same : n ≡ suc m = omega arith in omega (arith, ap (λ (i : ℕ). trial_count i k) same))
    (cases_lt n (suc m))

pub count_grows_by_degree : (n j k : ℕ) → 0 < n → j ≤ k → trial_count n j ≤ trial_count n k
count_grows_by_degree zero j k some less = absurd (omega arith)
count_grows_by_degree (suc n) j zero some less =
    let same : j ≡ 0 = omega arith in omega (arith, ap (trial_count (suc n)) same)
count_grows_by_degree (suc n) j (suc k) some less = ⊎_elim
    (λ (low : j < suc k).
    let before : trial_count (suc n) j ≤ trial_count (suc n) k = count_grows_by_degree (suc n) j k some (omega arith) in
    omega (arith, before, count_more n k))
    (λ (high : suc k ≤ j). let same : j ≡ suc k = omega arith in omega (arith, ap (trial_count (suc n)) same))
    (cases_lt j (suc k))

-- one dollar more
abbrev ByDegree : ℕ → Type 0
ByDegree j = (k : ℕ) → suc k * trial_count (suc j) (suc k) ≡ (k + j + 1) * trial_count (suc j) k

by_place : (j : ℕ) → ByDegree j → (k : ℕ) → suc j * trial_count (suc (suc j)) k ≡ (k + j + 1) * trial_count (suc j) k
by_place j degree zero = rw (no_dollar (suc j), no_dollar (suc (suc j))) (omega arith)
by_place j degree (suc k) = rw (count_more (suc j) k) (omega (arith, by_place j degree k, degree k))

by_degree : (j : ℕ) → ByDegree j
by_degree zero k = rw (one_place k, one_place (suc k)) (omega arith)
by_degree (suc j) k = rw (count_more (suc j) k) (omega (arith, by_degree j k, by_place j (by_degree j) k))

pub count_next : (p k : ℕ) → 0 < p → trial_count p k * (k + p) / p ≡ trial_count (p + 1) k
count_next zero k some = absurd (omega arith)
count_next (suc j) k some =
    let whole : trial_count (suc j) k * (k + suc j) ≡ suc j * trial_count (suc (suc j)) k =
    omega (arith, by_place j (by_degree j) k) in
    rw (whole, add-one) (mul-div_cancel_left (trial_count (suc (suc j)) k) some)
