-- Places of a list, one of which is set anew.
--   get_set     the place that was set holds what it was set to
--   get_other   the others hold what they held
--   length_set  there are as many
use Rattle.dg_table.proofs.Common.{◌≡◌, ◌≢◌, ℕ, zero, suc, List, [], ◌∷◌, length, slice_get, Some, refl, ap, slice_set}

pub get_set : {A : Type 0} (xs : List A) (i : ℕ) (x y : A) → slice_get xs i ≡ Some x → slice_get (slice_set xs i y) i ≡ Some y
get_set [] i x y at = absurd cc
get_set (w ∷ xs) zero x y at = refl
get_set (w ∷ xs) (suc i) x y at = get_set xs i x y at

pub get_other : {A : Type 0} (xs : List A) (i k : ℕ) (y : A) → k ≢ i → slice_get (slice_set xs i y) k ≡ slice_get xs k
get_other [] i k y other = refl
get_other (w ∷ xs) zero zero y other = absurd (other refl)
get_other (w ∷ xs) zero (suc k) y other = refl
get_other (w ∷ xs) (suc i) zero y other = refl
get_other (w ∷ xs) (suc i) (suc k) y other = get_other xs i k y (λ same. other (ap suc same))

pub length_set : {A : Type 0} (xs : List A) (i : ℕ) (y : A) → length (slice_set xs i y) ≡ length xs
length_set [] i y = refl
length_set (w ∷ xs) zero y = refl
length_set (w ∷ xs) (suc i) y = ap suc (length_set xs i y)
