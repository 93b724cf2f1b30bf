-- A seat's entries in a history, with their numbers.
--   enumerate_from-more   one more element at the end is the last of the numbered ones
--   none_of               the empty history has no entry of a seat
--   own_more              one more entry of the seat is the last of its entries
--   other_more            one more entry of another seat leaves the seat's entries
--   entries_from          the entries of a seat in what follows the first entries of a history
--   stands_from           they stand in it
--   entries_stand         the entries of a seat stand in the history
--   entries_both          the entries of a seat in a history are those in its beginning, and then those in the rest
--   entries_enumerated    the entries of a history that is numbered
--   own_alone             in a history of one seat its entries are all
--   own_stand             the entries of the seat in the beginning of a history stand in it
--   all_own               the entries of the seat in the beginning of a history are all, where they are as many as all
use Rattle.dg_table.proofs.Common.{◌≡◌, ℕ, suc, ◌+◌, ◌==◌, Bool, true, false, cond, List, [], ◌∷◌, ◌++◌, length, length-append, map, slice_get, Some, arith, refl, sym, ap, subst, ◌∙◌, eq-eqb, ⊤, filter, enumerate_from, append-nil, nil_from_length, filter-append, ne_eqb, Entry, StandIn, IsPrefixOf, AreOfSeats, entries_of, AloneHasAll, SeatStartsEmpty, OwnSeatsEntry, OtherSeatsEntry, SeatEntriesStand}
use Rattle.dg_table.proofs.Numbered.{stand_longer}

pub enumerate_from-more : {X : Type 0} (n : ℕ) (xs : List X) (x : X) →
    enumerate_from n (xs ++ x ∷ []) ≡ enumerate_from n xs ++ (n + length xs, x) ∷ []
enumerate_from-more n [] x = let same : n ≡ n + 0 = omega arith in ap (λ i. (i, x) ∷ []) same
enumerate_from-more {X} n (y ∷ xs) x =
    let same : (n + 1) + length xs ≡ n + suc (length xs) = omega arith in
    let place = ap (λ i. enumerate_from (n + 1) xs ++ (i, x) ∷ []) same in
    ap (λ (ps : List (ℕ × X)). (n, y) ∷ ps) (enumerate_from-more (n + 1) xs x ∙ place)

pub none_of : SeatStartsEmpty
none_of s = refl

-- the entries of the seat s in H, whose first has the number n
abbrev pub entries_from : ℕ → ℕ → List Entry → List (ℕ × Entry)
entries_from s n H = filter (λ p. p.1.seat == s) (enumerate_from n H)

one_more : (s : ℕ) (H : List Entry) (e : Entry) →
    entries_of s (H ++ e ∷ []) ≡ entries_of s H ++ cond (e.seat == s) ((length H, e) ∷ []) []
one_more s H e =
    let test : ℕ × Entry → Bool = λ p. p.1.seat == s in
    let last : 0 + length H ≡ length H = omega arith in
    ap (filter test) (enumerate_from-more 0 H e ∙ ap (λ i. enumerate_from 0 H ++ (i, e) ∷ []) last)
    ∙ filter-append test (enumerate_from 0 H) ((length H, e) ∷ [])

pub own_more : OwnSeatsEntry
own_more s H e own =
    one_more s H e ∙ ap (λ b. entries_of s H ++ cond b ((length H, e) ∷ []) []) (eq-eqb e.seat s own)

pub other_more : OtherSeatsEntry
other_more s H e other =
    one_more s H e ∙ ap (λ b. entries_of s H ++ cond b ((length H, e) ∷ []) []) (ne_eqb e.seat s other)
    ∙ append-nil (entries_of s H)

-- each of the entries ps stands in H, whose first entry has the number n
abbrev StandFrom : ℕ → List Entry → List (ℕ × Entry) → Type 0
StandFrom n H [] = ⊤
StandFrom n H (p ∷ ps) = ((k : ℕ) × (p.0 ≡ n + k) × (slice_get H k ≡ Some p.1)) × StandFrom n H ps

-- what stands in the rest of a list stands in the list
stands_after : (n : ℕ) (e : Entry) (H : List Entry) (ps : List (ℕ × Entry)) → StandFrom (n + 1) H ps →
    StandFrom n (e ∷ H) ps
stands_after n e H [] stand = tt
stands_after n e H (p ∷ ps) ((k, number, at), stand) = ((suc k, omega arith, at), stands_after n e H ps stand)

stands_kept : (n : ℕ) (H : List Entry) (b : Bool) (p : ℕ × Entry) (ps : List (ℕ × Entry)) → StandFrom n H (p ∷ []) →
    StandFrom n H ps → StandFrom n H (cond b (p ∷ ps) ps)
stands_kept n H true p ps first stand = (first.0, stand)
stands_kept n H false p ps first stand = stand

stands_from : (s n : ℕ) (H : List Entry) → StandFrom n H (entries_from s n H)
stands_from s n [] = tt
stands_from s n (e ∷ H) =
    let rest = stands_after n e H (entries_from s (n + 1) H) (stands_from s (n + 1) H) in
    let number : n ≡ n + 0 = omega arith in
    stands_kept n (e ∷ H) (e.seat == s) (n, e) (entries_from s (n + 1) H) ((0, number, refl), tt) rest

stand_in : (H : List Entry) (ps : List (ℕ × Entry)) → StandFrom 0 H ps → StandIn H ps
stand_in H [] stand = tt
stand_in H (p ∷ ps) ((k, number, at), stand) =
    let same : p.0 ≡ k = omega arith in
    (ap (slice_get H) same ∙ at, stand_in H ps stand)

pub entries_stand : SeatEntriesStand
entries_stand s H = stand_in H (entries_of s H) (stands_from s 0 H)

enumerate_from-append : {X : Type 0} (n : ℕ) (xs ys : List X) →
    enumerate_from n (xs ++ ys) ≡ enumerate_from n xs ++ enumerate_from (n + length xs) ys
enumerate_from-append n [] ys = let same : n ≡ n + 0 = omega arith in ap (λ i. enumerate_from i ys) same
enumerate_from-append {X} n (x ∷ xs) ys =
    let same : (n + 1) + length xs ≡ n + suc (length xs) = omega arith in
    ap (λ (ps : List (ℕ × X)). (n, x) ∷ ps)
    (enumerate_from-append (n + 1) xs ys ∙ ap (λ i. enumerate_from (n + 1) xs ++ enumerate_from i ys) same)

pub entries_both : (s : ℕ) (K rest : List Entry) →
    entries_of s (K ++ rest) ≡ entries_of s K ++ entries_from s (length K) rest
entries_both s K rest =
    let test : ℕ × Entry → Bool = λ p. p.1.seat == s in
    let start : 0 + length K ≡ length K = omega arith in
    ap (filter test) (enumerate_from-append 0 K rest ∙ ap (λ i. enumerate_from 0 K ++ enumerate_from i rest) start)
    ∙ filter-append test (enumerate_from 0 K) (enumerate_from (length K) rest)

pub own_stand : (s : ℕ) (K H : List Entry) (ps : List (ℕ × Entry)) → IsPrefixOf K H → entries_of s K ≡ ps →
    StandIn H ps
own_stand s K H ps (rest, is) own =
    subst (λ L. StandIn L ps) (sym is) (stand_longer K rest ps (subst (StandIn K) own (entries_stand s K)))

pub all_own : (s : ℕ) (K H : List Entry) (ps : List (ℕ × Entry)) → IsPrefixOf K H → entries_of s K ≡ ps →
    length ps ≡ length (entries_of s H) → entries_of s H ≡ ps
all_own s K H ps (rest, is) own count =
    let both : entries_of s H ≡ ps ++ entries_from s (length K) rest =
    ap (entries_of s) is ∙ entries_both s K rest ∙ ap (λ qs. qs ++ entries_from s (length K) rest) own in
    let size = length-append ps (entries_from s (length K) rest) in
    let none : entries_from s (length K) rest ≡ [] = nil_from_length _ (omega (arith, size, ap length both, count)) in
    both ∙ ap (λ qs. ps ++ qs) none ∙ append-nil ps

pub entries_enumerated : (n : ℕ) (H : List Entry) → map (λ (p : ℕ × Entry). p.1) (enumerate_from n H) ≡ H
entries_enumerated n [] = refl
entries_enumerated n (e ∷ H) = ap (λ L. e ∷ L) (entries_enumerated (n + 1) H)

alone_from : (n : ℕ) (H : List Entry) → AreOfSeats 1 H → entries_from 1 n H ≡ enumerate_from n H
alone_from n [] seated = refl
alone_from n (e ∷ H) seated =
    let bounds = seated 0 e refl in
    let one : e.seat ≡ 1 = omega (arith, bounds.0, bounds.1) in
    let F = entries_from 1 (n + 1) H in
    ap (λ b. cond b ((n, e) ∷ F) F) (eq-eqb e.seat 1 one)
    ∙ ap (λ (ps : List (ℕ × Entry)). (n, e) ∷ ps) (alone_from (n + 1) H (λ k x at. seated (suc k) x at))

pub own_alone : AloneHasAll
own_alone H seated = alone_from 0 H seated
