-- Products of whole numbers x, a, b, and of a natural number k.
--   mulz-add x a b   x (a + b) = x a + x b
--   mul-change k ..  k (a - c) + k (b - d) = k ((a + b) - (c + d))
--   mulz-sub x a b   x (a - b) = x a - x b
--   mul-swap x k a   x (k a) = k (x a)
--   one-mul a        1 a = a
use Rattle.dg_theory.proofs.Common.{◌≡◌, ℕ, zero, suc, arith, refl, ints, ℤ, pos, negsuc, ◌+ℤ◌, ◌-ℤ◌, ◌*ℤ◌, suc_ℤ-*ℤ, pred_ℤ-*ℤ, zero-*ℤ, *ℤ-zero}

pub mulz-add : (x a b : ℤ) → x *ℤ (a +ℤ b) ≡ x *ℤ a +ℤ x *ℤ b
mulz-add (pos zero) a b = omega (arith, ints, zero-*ℤ (a +ℤ b), zero-*ℤ a, zero-*ℤ b)
mulz-add (pos (suc k)) a b =
    omega (arith, ints, suc_ℤ-*ℤ (pos k) (a +ℤ b), suc_ℤ-*ℤ (pos k) a, suc_ℤ-*ℤ (pos k) b, mulz-add (pos k) a b)
mulz-add (negsuc zero) a b =
    omega (
      arith,
      ints,
      pred_ℤ-*ℤ (pos 0) (a +ℤ b),
      pred_ℤ-*ℤ (pos 0) a,
      pred_ℤ-*ℤ (pos 0) b,
      zero-*ℤ (a +ℤ b),
      zero-*ℤ a,
      zero-*ℤ b,
    )
mulz-add (negsuc (suc k)) a b =
    omega (
      arith,
      ints,
      pred_ℤ-*ℤ (negsuc k) (a +ℤ b),
      pred_ℤ-*ℤ (negsuc k) a,
      pred_ℤ-*ℤ (negsuc k) b,
      mulz-add (negsuc k) a b,
    )

pub mul-change : (k : ℕ) (a b c d : ℤ) → pos k *ℤ (a -ℤ c) +ℤ pos k *ℤ (b -ℤ d) ≡ pos k *ℤ ((a +ℤ b) -ℤ (c +ℤ d))
mul-change k a b c d =
    let same : (a -ℤ c) +ℤ (b -ℤ d) ≡ (a +ℤ b) -ℤ (c +ℤ d) = omega (arith, ints) in
    rw (← mulz-add (pos k) (a -ℤ c) (b -ℤ d), same) refl

pub mulz-sub : (x a b : ℤ) → x *ℤ (a -ℤ b) ≡ x *ℤ a -ℤ x *ℤ b
mulz-sub x a b =
    let whole : (a -ℤ b) +ℤ b ≡ a = omega (arith, ints) in
    let parts = rw whole at (mulz-add x (a -ℤ b) b) in
    omega (arith, ints)

pub mul-swap : (x : ℤ) (k : ℕ) (a : ℤ) → x *ℤ (pos k *ℤ a) ≡ pos k *ℤ (x *ℤ a)
mul-swap x zero a = rw (zero-*ℤ a, zero-*ℤ (x *ℤ a)) (*ℤ-zero x)
mul-swap x (suc k) a =
    let step : pos (suc k) *ℤ a ≡ pos k *ℤ a +ℤ a = suc_ℤ-*ℤ (pos k) a in
    rw step (omega (arith, ints, mulz-add x (pos k *ℤ a) a, suc_ℤ-*ℤ (pos k) (x *ℤ a), mul-swap x k a))

pub one-mul : (a : ℤ) → pos 1 *ℤ a ≡ a
one-mul a = omega (arith, ints, suc_ℤ-*ℤ (pos 0) a, zero-*ℤ a)
