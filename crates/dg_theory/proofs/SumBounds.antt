-- Bounds on products and on sums over the numbers below n.
--   mul-nonpos          a natural number times one that is at most 0 is at most 0
--   mul-negative        k times a negative number is at most - k
--   mul-cancel          if k times x is at least 0 and k is positive, x is at least 0
--   sum_below-nonpos    a sum of terms that are at most 0 is at most 0
--   mul-once            a positive number times one that is at most 0 is at most that one
--   mul-mono            k times x is at most k times a larger number
--   mul-grows           a positive number times one that is at least 0 is at least that one
--   sum_below-le_term   a sum of terms that are at most 0 is at most each of them
--   sum_below-at_least  a sum of n terms that are at least - K is at least - n K
--   sum_below-but_one   if one of the terms is at least 0, the sum is at least - (n - 1) K
use Rattle.dg_theory.proofs.Common.{◌≢◌, ℕ, zero, suc, ◌*◌, ◌<◌, arith, ints, by_lt_z, ℤ, pos, ◌+ℤ◌, ◌*ℤ◌, suc_ℤ-*ℤ, zero-*ℤ, ◌≤ℤ◌, ◌<ℤ◌, sum_below, neg_ℤ}
use Rattle.dg_theory.proofs.SumLaws.{sum_below-le, sum_below-le_but, sum_below-same, sum_below-debts}

pub mul-nonpos : (k : ℕ) (x : ℤ) → x ≤ℤ pos 0 → (pos k *ℤ x) ≤ℤ pos 0
mul-nonpos zero x low = omega (arith, ints, zero-*ℤ x)
mul-nonpos (suc k) x low = omega (arith, ints, suc_ℤ-*ℤ (pos k) x, mul-nonpos k x low)

pub mul-negative : (k : ℕ) (x : ℤ) → x <ℤ pos 0 → (pos k *ℤ x +ℤ pos k) ≤ℤ pos 0
mul-negative zero x low = omega (arith, ints, zero-*ℤ x)
mul-negative (suc k) x low = omega (arith, ints, suc_ℤ-*ℤ (pos k) x, mul-negative k x low)

pub mul-cancel : (k : ℕ) (x : ℤ) → 0 < k → pos 0 ≤ℤ (pos k *ℤ x) → pos 0 ≤ℤ x
mul-cancel k x some high =
    by_lt_z x (pos 0)
    (λ (less : x <ℤ pos 0). absurd (omega (arith, ints, mul-negative k x less)))
    (λ (more : pos 0 ≤ℤ x). more)

pub sum_below-nonpos : (n : ℕ) (f : ℕ → ℤ) → ((w : ℕ) → w < n → f w ≤ℤ pos 0) → sum_below n f ≤ℤ pos 0
sum_below-nonpos n f low = omega (arith, ints, sum_below-le n f (λ w. pos 0) low, sum_below-same n 0)

pub mul-once : (k : ℕ) (x : ℤ) → 0 < k → x ≤ℤ pos 0 → (pos k *ℤ x) ≤ℤ x
mul-once zero x some low = absurd (omega arith)
mul-once (suc k) x some low = omega (arith, ints, suc_ℤ-*ℤ (pos k) x, mul-nonpos k x low)

pub mul-mono : (k : ℕ) (x y : ℤ) → x ≤ℤ y → (pos k *ℤ x) ≤ℤ (pos k *ℤ y)
mul-mono zero x y less = omega (arith, ints, zero-*ℤ x, zero-*ℤ y)
mul-mono (suc k) x y less = omega (arith, ints, suc_ℤ-*ℤ (pos k) x, suc_ℤ-*ℤ (pos k) y, mul-mono k x y less)

pub mul-grows : (k : ℕ) (x : ℤ) → 0 < k → pos 0 ≤ℤ x → x ≤ℤ (pos k *ℤ x)
mul-grows zero x some high = absurd (omega arith)
mul-grows (suc zero) x some high = omega (arith, ints, suc_ℤ-*ℤ (pos 0) x, zero-*ℤ x)
mul-grows (suc (suc k)) x some high =
    omega (arith, ints, suc_ℤ-*ℤ (pos (suc k)) x, mul-grows (suc k) x (omega arith) high)

pub sum_below-le_term : (n : ℕ) (f : ℕ → ℤ) → ((w : ℕ) → w < n → f w ≤ℤ pos 0) → (v : ℕ) → v < n → sum_below n f ≤ℤ f v
sum_below-le_term n f low v inside =
    omega (arith, ints, sum_below-le_but n f (λ w. pos 0) v inside (λ w below _. low w below), sum_below-same n 0)

pub sum_below-at_least : (n K : ℕ) (f : ℕ → ℤ) → ((w : ℕ) → w < n → pos 0 ≤ℤ (f w +ℤ pos K)) →
    pos 0 ≤ℤ (sum_below n f +ℤ pos (n * K))
sum_below-at_least n K f high =
    let le = sum_below-le n (λ w. neg_ℤ (pos K)) f (λ w below. omega (arith, ints, high w below)) in
    omega (arith, ints, sum_below-debts n K)

pub sum_below-but_one : (n K q : ℕ) (f : ℕ → ℤ) → q < n → pos 0 ≤ℤ f q →
    ((w : ℕ) → w < n → w ≢ q → pos 0 ≤ℤ (f w +ℤ pos K)) → pos K ≤ℤ (sum_below n f +ℤ pos (n * K))
sum_below-but_one n K q f inside free high =
    let le = sum_below-le_but n (λ w. neg_ℤ (pos K)) f q inside (λ w below other. omega (arith, ints, high w below other)) in
    omega (arith, ints, sum_below-debts n K)
