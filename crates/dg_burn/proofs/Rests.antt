-- The places of an order that are not used.
--   none_after    the places after q are 0
use Rattle.dg_burn.proofs.Common.{◌≡◌, ℕ, zero, suc, ◌≤◌, ◌∷◌, replicate, arith, refl, slice_index_or}

zero_at : (k i : ℕ) → slice_index_or {A = ℕ} (replicate k 0) i 0 ≡ 0
zero_at zero i = refl
zero_at (suc k) zero = refl
zero_at (suc k) (suc i) = zero_at k i

pub none_after : (k q i : ℕ) → 1 ≤ i → slice_index_or {A = ℕ} (q ∷ replicate k 0) i 0 ≡ 0
none_after k q zero past = absurd (omega arith)
none_after k q (suc i) past = zero_at k i
