-- A largest value.
--   IsLargest n f u   the value of f at u is the largest among those at the numbers below n
--   largest   among the values of a function at the numbers below n, where there are any, one is the largest
use Rattle.dg_theory.proofs.Common.{◌≡◌, ℕ, zero, suc, ◌<◌, arith, ap, ⊎_elim, cases_eq, ints, by_lt_z, ℤ, ◌≤ℤ◌, ◌<ℤ◌}

abbrev pub IsLargest : ℕ → (ℕ → ℤ) → ℕ → Type 0
IsLargest n f u = (w : ℕ) → w < n → f w ≤ℤ f u

largest_with : (n : ℕ) (f : ℕ → ℤ) (x : ℤ) → ((w : ℕ) → w < n → f w ≤ℤ x) → f n ≤ℤ x → (w : ℕ) → w < suc n → f w ≤ℤ x
largest_with n f x before last w below =
    ⊎_elim
    (λ (same : w ≡ n). let at : f w ≡ f n = ap f same in omega (arith, ints))
    (λ (other : w ≡ n → ⊥). before w (omega arith))
    (cases_eq w n)

pub largest : (n : ℕ) (f : ℕ → ℤ) → 0 < n → (u : ℕ) × (u < n) × IsLargest n f u
largest zero f some = absurd (omega arith)
largest (suc zero) f some =
    (zero, omega arith, λ w below. let at : f w ≡ f zero = ap f (omega arith) in omega (arith, ints))
largest (suc (suc n)) f some =
    let (u, inside, top) = largest (suc n) f (omega arith) in
    by_lt_z (f u) (f (suc n))
    (λ (less : f u <ℤ f (suc n)). (
      suc n,
      omega arith,
      largest_with (suc n) f (f (suc n))
          (λ w below. let before : f w ≤ℤ f u = top w below in omega (arith, ints)) (omega (arith, ints)),
    ))
    (λ (more : f (suc n) ≤ℤ f u). (u, omega arith, largest_with (suc n) f (f u) top more))
