-- The seats of a table determine its history.
--   found_at       an entry at a place stands wherever its seat's entries stand with their numbers
--   all_at         where the seats 1 to n have the same entries in two histories, what stands in one stands in the other
--   same_places    two lists are one, where each has at each place what the other has
--   attested_one   a table's history is attested by its seats once
use Rattle.dg_table.proofs.Common.{◌≡◌, ℕ, zero, suc, ◌+◌, ◌==◌, ◌≤◌, Bool, true, false, cond, List, [], ◌∷◌, slice_get, Some, arith, refl, sym, ap, subst, ◌∙◌, eq-eqb, same_Some, Entry, StandIn, AreOfSeats, entries_of, AttestedIsUnique}
use Rattle.dg_table.proofs.Entries.{entries_from, entries_stand}

rest_stands : (K : List Entry) (b : Bool) (p : ℕ × Entry) (ps : List (ℕ × Entry)) → StandIn K (cond b (p ∷ ps) ps) →
    StandIn K ps
rest_stands K true p ps stand = stand.1
rest_stands K false p ps stand = stand

found_at : (n k : ℕ) (H K : List Entry) (e : Entry) → slice_get H k ≡ Some e → StandIn K (entries_from e.seat n H) →
    slice_get K (n + k) ≡ Some e
found_at n k [] K e at stand = absurd cc
found_at n zero (h ∷ H) K e at stand =
    let F = entries_from e.seat (n + 1) H in
    let own = eq-eqb h.seat e.seat (ap (λ (x : Entry). x.seat) (same_Some h e at)) in
    let first = subst (λ b. StandIn K (cond b ((n, h) ∷ F) F)) own stand in
    let here : n + 0 ≡ n = omega arith in
    ap (slice_get K) here ∙ first.0 ∙ at
found_at n (suc k) (h ∷ H) K e at stand =
    let F = entries_from e.seat (n + 1) H in
    let here : n + suc k ≡ (n + 1) + k = omega arith in
    ap (slice_get K) here ∙ found_at (n + 1) k H K e at (rest_stands K (h.seat == e.seat) (n, h) F stand)

all_at : {n : ℕ} (H K : List Entry) → AreOfSeats n H →
    ((s : ℕ) → 1 ≤ s → s ≤ n → entries_of s H ≡ entries_of s K) → (k : ℕ) (e : Entry) → slice_get H k ≡ Some e →
    slice_get K k ≡ Some e
all_at {n} H K seated same k e at =
    let (least, most) = seated k e at in
    let here : k ≡ 0 + k = omega arith in
    ap (slice_get K) here
    ∙ found_at 0 k H K e at (subst (StandIn K) (sym (same e.seat least most)) (entries_stand e.seat K))

same_places : {X : Type 0} (xs ys : List X) → ((k : ℕ) (x : X) → slice_get xs k ≡ Some x → slice_get ys k ≡ Some x) →
    ((k : ℕ) (y : X) → slice_get ys k ≡ Some y → slice_get xs k ≡ Some y) → xs ≡ ys
same_places [] [] there back = refl
same_places [] (y ∷ ys) there back = let none = back 0 y refl in absurd cc
same_places (x ∷ xs) [] there back = let none = there 0 x refl in absurd cc
same_places (x ∷ xs) (y ∷ ys) there back =
    let first : x ≡ y = same_Some x y (back 0 y refl) in
    let rest = same_places xs ys (λ k z at. there (suc k) z at) (λ k z at. back (suc k) z at) in
    λ i. first i ∷ rest i

pub attested_one : AttestedIsUnique
attested_one table xs H K complete before after =
    let one : (s : ℕ) → 1 ≤ s → s ≤ table.seats → entries_of s H ≡ entries_of s K = λ s least most.
    let (i, x, at, number) = complete s least most in
    ap (λ t. entries_of t H) (sym number) ∙ (before.attested i x at).mine ∙ sym (after.attested i x at).mine
    ∙ ap (λ t. entries_of t K) number in
    same_places H K (all_at H K before.history.seated one)
    (all_at K H after.history.seated (λ s least most. sym (one s least most)))
