-- How long it takes until a test holds that goes on holding once it holds.
--   some_below n p       whether one of the numbers below n passes the test p
--   some_below-at        it does where one of them passes
--   some_below-witness   and then there is one that passes
--   Lasts R              a test of the steps 0, 1, .. that holds at step k holds at step k + 1
--   wait n R             at how many of the steps below n the test does not hold
--   wait-few             at most at all of them
--   wait-over            where it holds at step k, the wait is at most k
--   wait-on              where it does not hold at a step k below n, the wait is longer than k
--   wait-end             so at the step after the wait it holds, if that is below n
use Rattle.dg_theory.proofs.Common.{◌≡◌, ℕ, zero, suc, ◌<◌, ◌≤◌, Bool, true, false, not, arith, refl, sym, ap, ◌∙◌, ⊎_elim, ◌||◌, cases_eq, cases_lt, cases_Bool, or_cases, or_left, or_right, true_from_ne_false}
use Rattle.dg_theory.proofs.Counting.{one_if, count_of}

abbrev pub some_below : ℕ → (ℕ → Bool) → Bool
some_below zero p = false
some_below (suc n) p = some_below n p || p n

pub some_below-at : (n : ℕ) (p : ℕ → Bool) (v : ℕ) → v < n → p v ≡ true → some_below n p ≡ true
some_below-at zero p v below on = absurd (omega arith)
some_below-at (suc n) p v below on = ⊎_elim
    (λ (last : v ≡ n). or_right (some_below n p) (p n) (sym (ap p last) ∙ on))
    (λ (before : v ≡ n → ⊥). or_left (some_below n p) (p n) (some_below-at n p v (omega arith) on))
    (cases_eq v n)

pub some_below-witness : (n : ℕ) (p : ℕ → Bool) → some_below n p ≡ true → (v : ℕ) × (v < n) × (p v ≡ true)
some_below-witness zero p some = let clash : ⊥ = cc in absurd clash
some_below-witness (suc n) p some = ⊎_elim
    (λ (before : some_below n p ≡ true).
    let found = some_below-witness n p before in (found.0, omega (arith, found.1), found.2))
    (λ (last : p n ≡ true). (n, omega arith, last))
    (or_cases (some_below n p) (p n) some)

abbrev pub Lasts : (ℕ → Bool) → Type 0
Lasts R = (k : ℕ) → R k ≡ true → R (suc k) ≡ true

abbrev pub wait : ℕ → (ℕ → Bool) → ℕ
wait n R = count_of n (λ k. not (R k))

lasts-to : (R : ℕ → Bool) (k m : ℕ) → Lasts R → R k ≡ true → k ≤ m → R m ≡ true
lasts-to R k zero lasts on past = let same : k ≡ 0 = omega arith in sym (ap R same) ∙ on
lasts-to R k (suc m) lasts on past = ⊎_elim
    (λ (equal : k ≡ suc m). sym (ap R equal) ∙ on)
    (λ (before : k ≡ suc m → ⊥). lasts m (lasts-to R k m lasts on (omega arith)))
    (cases_eq k (suc m))

one_unless-few : (b : Bool) → one_if (not b) ≤ 1
one_unless-few true = omega arith
one_unless-few false = omega arith

pub wait-few : (n : ℕ) (R : ℕ → Bool) → wait n R ≤ n
wait-few zero R = omega arith
wait-few (suc n) R = omega (arith, wait-few n R, one_unless-few (R n))

pub wait-over : (n : ℕ) (R : ℕ → Bool) (k : ℕ) → Lasts R → R k ≡ true → wait n R ≤ k
wait-over zero R k lasts on = omega arith
wait-over (suc n) R k lasts on = ⊎_elim
    (λ (past : n < k). omega (arith, wait-few n R, one_unless-few (R n)))
    (λ (reached : k ≤ n).
    let none : one_if (not (R n)) ≡ 0 = ap (λ b. one_if (not b)) (lasts-to R k n lasts on reached) in
    omega (arith, wait-over n R k lasts on))
    (cases_lt n k)

pub wait-on : (n : ℕ) (R : ℕ → Bool) (k : ℕ) → Lasts R → R k ≡ false → k < n → k < wait n R
wait-on zero R k lasts off below = absurd (omega arith)
wait-on (suc n) R k lasts off below = ⊎_elim
    (λ (last : k ≡ n).
    let one : one_if (not (R n)) ≡ 1 = ap (λ b. one_if (not b)) (sym (ap R last) ∙ off) in
    omega (arith, wait-all n R (λ j before. still R j k lasts off (omega arith))))
    (λ (before : k ≡ n → ⊥). omega (arith, wait-on n R k lasts off (omega arith)))
    (cases_eq k n)
  where
    still : (R : ℕ → Bool) (j k : ℕ) → Lasts R → R k ≡ false → j ≤ k → R j ≡ false
    still R j k lasts off early = ⊎_elim
        (λ (on : R j ≡ true). let end : R k ≡ true = lasts-to R j k lasts on early in let clash : ⊥ = cc in
        absurd clash)
        (λ (out : R j ≡ false). out)
        (cases_Bool (R j))

    wait-all : (n : ℕ) (R : ℕ → Bool) → ((j : ℕ) → j < n → R j ≡ false) → wait n R ≡ n
    wait-all zero R none = refl
    wait-all (suc n) R none =
        let before : wait n R ≡ n = wait-all n R (λ j below. none j (omega arith)) in
        let one : one_if (not (R n)) ≡ 1 = ap (λ b. one_if (not b)) (none n (omega arith)) in
        omega arith

pub wait-end : (n : ℕ) (R : ℕ → Bool) → Lasts R → wait n R < n → R (wait n R) ≡ true
wait-end n R lasts few = true_from_ne_false (R (wait n R)) (λ off.
    let longer : wait n R < wait n R = wait-on n R (wait n R) lasts off few in absurd (omega arith))
