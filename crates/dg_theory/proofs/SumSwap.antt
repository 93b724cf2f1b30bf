-- Sums of whole numbers over the numbers below n: multiples, differences, and the order of two sums.
--   sum_below-scale   a multiple of a sum is the sum of the multiples
--   sum_below-sub     a sum of differences is the difference of the sums
--   sum_below-swap    a sum over rows of sums over columns is the sum over columns of sums over rows
use Rattle.dg_theory.proofs.Common.{◌≡◌, ℕ, zero, suc, arith, refl, sym, ints, ℤ, pos, ◌-ℤ◌, ◌*ℤ◌, *ℤ-zero, sum_below}
use Rattle.dg_theory.proofs.Products.{mulz-add}
use Rattle.dg_theory.proofs.SumLaws.{sum_below-add, sum_below-zero}

pub sum_below-scale : (n : ℕ) (x : ℤ) (f : ℕ → ℤ) → x *ℤ sum_below n f ≡ sum_below n (λ w. x *ℤ f w)
sum_below-scale zero x f = *ℤ-zero x
sum_below-scale (suc n) x f = omega (arith, ints, mulz-add x (sum_below n f) (f n), sum_below-scale n x f)

pub sum_below-sub : (n : ℕ) (f h : ℕ → ℤ) → sum_below n (λ w. f w -ℤ h w) ≡ sum_below n f -ℤ sum_below n h
sum_below-sub zero f h = refl
sum_below-sub (suc n) f h = omega (arith, ints, sum_below-sub n f h)

pub sum_below-swap : (m n : ℕ) (f : ℕ → ℕ → ℤ) →
    sum_below m (λ v. sum_below n (λ w. f v w)) ≡ sum_below n (λ w. sum_below m (λ v. f v w))
sum_below-swap zero n f = sym (sum_below-zero n (λ _. pos 0) (λ w below. refl))
sum_below-swap (suc m) n f =
    let rows : sum_below m (λ v. sum_below n (λ w. f v w)) ≡ sum_below n (λ w. sum_below m (λ v. f v w)) =
    sum_below-swap m n f in
    omega (arith, ints, sum_below-add n (λ w. sum_below m (λ v. f v w)) (λ w. f m w))
