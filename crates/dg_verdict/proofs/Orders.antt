-- An order in which vertices burn, tested place by place.
--   IsOrderSoFar g q D l n S == l is q, and then vertices each of which may burn after those before it, n in all, and S
--                               is the set of them
--   order-first   the first place, where q stands, is an order so far
--   order-more    an order so far with one more vertex that may burn is one
--   order-done    an order so far of as many vertices as there are burns them all
--   order-fails   where a vertex stands that may not burn after those before it, not all burn
use Rattle.dg_verdict.proofs.Common.{◌≡◌, ℕ, zero, suc, ◌+◌, ◌<◌, ◌≤◌, Bool, false, List, [], ◌∷◌, length, take, arith, sym, ap, subst, ◌∙◌, slice_get, Some, slice_index_or, take_more, take-take, get_or-take, length-take, slice_get-get_or, Multigraph, Amounts, list_contains, MayBurn, IsBurningOrder, IsSetWith, count_unburnt, IsPartialBurning, get-first, next-more, count_unburnt-fewer, same-more, burning-lit, none_unreached}

pub record IsOrderSoFar (g : Multigraph) (q : ℕ) (D : Amounts) (l : List ℕ) (n : ℕ) (S : ℕ → Bool) : Type 0 where
  pub first : slice_get l 0 ≡ Some q
  pub next : (i v : ℕ) → slice_get l (suc i) ≡ Some v → MayBurn g D (list_contains (take (suc i) l)) v
  pub same : (v : ℕ) → S v ≡ list_contains l v
  pub left : n + count_unburnt g.size S ≡ g.size

only_q : (g : Multigraph) (q : ℕ) (D : Amounts) (S T : ℕ → Bool) → q < g.size → ((v : ℕ) → S v ≡ false) → IsSetWith S q T →
    IsOrderSoFar g q D (q ∷ []) 1 T
only_q g q D S T vertex none lit =
    let begun : IsPartialBurning g q D (q ∷ []) 1 T = burning-lit g q D S T vertex none lit in
    record {
      first = begun.so_far.first;
      next = λ i v place. (begun.so_far.next i v place).may;
      same = begun.same;
      left = begun.left;
    }

pub order-first : (g : Multigraph) (q : ℕ) (D : Amounts) (order : List ℕ) (S T : ℕ → Bool) → q < g.size →
    0 < length order →
    slice_index_or order 0 0 ≡ q → ((v : ℕ) → S v ≡ false) → IsSetWith S q T → IsOrderSoFar g q D (take 1 order) 1 T
order-first g q D order S T vertex some first none lit =
    let one : take 1 order ≡ q ∷ [] = take_more order 0 0 some ∙ ap (λ (v : ℕ). v ∷ []) first in
    rw one (only_q g q D S T vertex none lit)

pub order-more : (g : Multigraph) (q : ℕ) (D : Amounts) (order : List ℕ) (i : ℕ) (S T : ℕ → Bool) (v : ℕ) →
    IsOrderSoFar g q D (take i order) i S → i < length order → v ≡ slice_index_or order i 0 → MayBurn g D S v →
    IsSetWith S v T → IsOrderSoFar g q D (take (i + 1) order) (i + 1) T
order-more g q D order i S T v state within named burns more =
    rw (take_more order i 0 within, ← named) (record {
      first = get-first (take i order) v q state.first;
      next = next-more (MayBurn g D) (take i order) v state.next
          (subst (λ B. MayBurn g D B v) (λ j w. state.same w j) burns);
      same = same-more (take i order) S T v more state.same;
      left = omega (arith, state.left, count_unburnt-fewer g.size S T v burns.vertex burns.unburnt more);
    })

pub order-done : (g : Multigraph) (q : ℕ) (D : Amounts) (order : List ℕ) (n : ℕ) (S : ℕ → Bool) →
    IsOrderSoFar g q D (take n order) n S → n ≡ g.size → IsBurningOrder g q D (take g.size order)
order-done g q D order n S state whole = subst (λ (k : ℕ). IsBurningOrder g q D (take k order)) whole (record {
  first = state.first;
  next = state.next;
  all = λ v below. sym (state.same v) ∙ none_unreached g.size S v below (omega (arith, state.left));
})

pub order-fails : (g : Multigraph) (q : ℕ) (D : Amounts) (order : List ℕ) (i : ℕ) (S : ℕ → Bool) →
    IsOrderSoFar g q D (take i order) i S → 1 ≤ i → i < g.size → g.size ≤ length order →
    ¬ MayBurn g D S (slice_index_or order i 0) → ¬ IsBurningOrder g q D (take g.size order)
order-fails g q D order zero S state later inside long none burns = absurd (omega arith)
order-fails g q D order (suc j) S state later inside long none burns =
    let v : ℕ = slice_index_or order (suc j) 0 in
    let place : slice_get (take g.size order) (suc j) ≡ Some v =
    slice_get-get_or (take g.size order) (suc j) 0 (omega (arith, length-take g.size order))
    ∙ ap Some (get_or-take g.size order (suc j) 0 inside) in
    let may : MayBurn g D (list_contains (take (suc j) (take g.size order))) v = burns.next j v place in
    let shorter : take (suc j) (take g.size order) ≡ take (suc j) order =
    take-take (suc j) g.size order (omega arith) in
    let may' : MayBurn g D (list_contains (take (suc j) order)) v =
    subst (λ (l : List ℕ). MayBurn g D (list_contains l) v) shorter may in
    none (subst (λ B. MayBurn g D B v) (λ k w. sym (state.same w) k) may')
