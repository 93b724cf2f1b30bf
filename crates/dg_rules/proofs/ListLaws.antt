-- Lists with one more element at the end, and the first elements of a list.
--   slice_get-append   before its end a longer list holds what the shorter one held
--   slice_get-seam     a list with a new element at its end holds it there
--   slice_get_taken    what the first elements of a list hold, the list holds
--   more_holds         in a list with one more element each is an old one at its place, or the new one at the end
use Rattle.dg_rules.proofs.Common.{◌≡◌, ℕ, zero, suc, ◌<◌, List, [], ◌∷◌, ◌++◌, length, take, slice_get, Some, ◌⊎◌, arith, refl, sym, ap, ◌∙◌, inl, inr, length-append, cases_lt, slice_get_within}

pub slice_get-append : {X : Type 0} (xs ys : List X) (k : ℕ) → k < length xs → slice_get (xs ++ ys) k ≡ slice_get xs k
slice_get-append [] ys k below = absurd (omega arith)
slice_get-append (x ∷ xs) ys zero below = refl
slice_get-append (x ∷ xs) ys (suc k) below = slice_get-append xs ys k (omega arith)

pub slice_get-seam : {X : Type 0} (xs : List X) (y : X) (ys : List X) → slice_get (xs ++ y ∷ ys) (length xs) ≡ Some y
slice_get-seam [] y ys = refl
slice_get-seam (x ∷ xs) y ys = slice_get-seam xs y ys

pub slice_get_taken : {X : Type 0} (k : ℕ) (xs : List X) (i : ℕ) (x : X) → slice_get (take k xs) i ≡ Some x →
    slice_get xs i ≡ Some x
slice_get_taken zero xs i x at = absurd (cc)
slice_get_taken (suc k) [] i x at = at
slice_get_taken (suc k) (y ∷ xs) zero x at = at
slice_get_taken (suc k) (y ∷ xs) (suc i) x at = slice_get_taken k xs i x at

pub more_holds : {X : Type 0} (xs : List X) (y : X) (k : ℕ) (x : X) → slice_get (xs ++ y ∷ []) k ≡ Some x →
    ((k < length xs) × (slice_get xs k ≡ Some x)) ⊎ ((k ≡ length xs) × (x ≡ y))
more_holds {X} xs y k x at = elim (cases_lt k (length xs)) [
  | inl below ↦ inl (below, sym (slice_get-append xs (y ∷ []) k below) ∙ at)
  | inr above ↦
      let within : k < length (xs ++ y ∷ []) = slice_get_within (xs ++ y ∷ []) k x at in
      let last : k ≡ length xs = omega (arith, length-append xs (y ∷ [])) in
      let seam : slice_get (xs ++ y ∷ []) k ≡ Some y = ap (slice_get (xs ++ y ∷ [])) last ∙ slice_get-seam xs y [] in
      let same : Some x ≡ Some y = sym at ∙ seam in
      inr (last, (cc))
]
