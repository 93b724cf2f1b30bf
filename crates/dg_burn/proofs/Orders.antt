-- Lists of vertices in the order in which they burn.
--   get-push       what a list with one more element at its end holds at a place
--   get-first      it begins as before
--   next-more      if each later element is right after those before it, so it is with one more that is right after all
--   so_far-first   q alone
--   so_far-more    one vertex more, which is the least that may burn
--   so_far-done    the list is the whole order where none may burn
use Rattle.dg_burn.proofs.Common.{◌≡◌, ℕ, zero, suc, ◌<◌, ◌⊎◌, Bool, List, [], ◌∷◌, ◌++◌, length, take, arith, refl, inl, inr, ⊎_elim, slice_get, Some, take-append-le, take_all, Multigraph, Amounts, list_contains, MayBurn, BurnsNext, IsBurningPrefix, IsLeastBurningOrder}

pub get-push : (l : List ℕ) (v i w : ℕ) → slice_get (l ++ v ∷ []) i ≡ Some w →
    ((i < length l) × (slice_get l i ≡ Some w)) ⊎ ((i ≡ length l) × (v ≡ w))
get-push [] v zero w place = inr (refl, cc)
get-push [] v (suc i) w place = let clash : ⊥ = cc in absurd clash
get-push (x ∷ l) v zero w place = inl (omega arith, place)
get-push (x ∷ l) v (suc i) w place = ⊎_elim
    (λ (old : (i < length l) × (slice_get l i ≡ Some w)). inl (omega arith, old.1))
    (λ (new : (i ≡ length l) × (v ≡ w)). inr (omega arith, new.1))
    (get-push l v i w place)

pub get-first : (l : List ℕ) (v q : ℕ) → slice_get l 0 ≡ Some q → slice_get (l ++ v ∷ []) 0 ≡ Some q
get-first [] v q first = let clash : ⊥ = cc in absurd clash
get-first (x ∷ l) v q first = first

pub next-more : (P : (ℕ → Bool) → ℕ → Type 0) (l : List ℕ) (v : ℕ) →
    ((i w : ℕ) → slice_get l (suc i) ≡ Some w → P (list_contains (take (suc i) l)) w) → P (list_contains l) v →
    (i w : ℕ) → slice_get (l ++ v ∷ []) (suc i) ≡ Some w → P (list_contains (take (suc i) (l ++ v ∷ []))) w
next-more P l v before last i w place = ⊎_elim
    (λ (old : (suc i < length l) × (slice_get l (suc i) ≡ Some w)).
    rw (take-append-le (suc i) l (v ∷ []) (omega arith)) (before i w old.1))
    (λ (new : (suc i ≡ length l) × (v ≡ w)).
    rw (take-append-le (suc i) l (v ∷ []) (omega arith), take_all (suc i) l (omega arith), ← new.1) last)
    (get-push l v (suc i) w place)

pub so_far-first : (g : Multigraph) (q : ℕ) (D : Amounts) → IsBurningPrefix g q D (q ∷ [])
so_far-first g q D = record { first = refl; next = λ i v place. let clash : ⊥ = cc in absurd clash }

pub so_far-more : (g : Multigraph) (q : ℕ) (D : Amounts) (l : List ℕ) (v : ℕ) → IsBurningPrefix g q D l →
    BurnsNext g D (list_contains l) v → IsBurningPrefix g q D (l ++ v ∷ [])
so_far-more g q D l v so_far burns = record {
  first = get-first l v q so_far.first;
  next = next-more (BurnsNext g D) l v so_far.next burns;
}

pub so_far-done : (g : Multigraph) (q : ℕ) (D : Amounts) (l : List ℕ) → IsBurningPrefix g q D l →
    ((v : ℕ) → ¬ MayBurn g D (list_contains l) v) → IsLeastBurningOrder g q D l
so_far-done g q D l so_far none = record { begun = so_far; last = none }
