-- The counts of entries, one for each seat.
--   seated_more      a history of the seats 1 to n, with one more entry of such a seat, is one
--   counted_more     where the counts are those of a history, and the one of a seat is raised, they are those of the
--                    history with one more entry of that seat
--   counted_none     no entry is counted in the empty history
--   none_past        a history of the seats 1 to n has no entry of a seat past n
--   seats_counted    the numbers of the entries of the seats 1 to n add up to the length of their history
--   all_counted      the counts of all seats add up to the length of the history
use Rattle.dg_table.proofs.Common.{◌≡◌, ◌≢◌, ℕ, zero, suc, ◌+◌, ◌<◌, ◌≤◌, ◌==◌, Bool, true, false, cond, List, [], ◌∷◌, ◌++◌, length, get_or, set, slice_get, Some, sum, arith, refl, sym, ap, ◌∙◌, inl, inr, eq-eqb, get_or-set_same, get_or-set_other, length_push, sum_by-cons, ne_eqb, cases_eq, Entry, MAX_SEATS, more_holds, AreSeatCounts, AreOfSeats, entries_of}
use Rattle.dg_table.proofs.Entries.{entries_from, own_more, other_more}

pub seated_more : (n : ℕ) (H : List Entry) (e : Entry) → AreOfSeats n H → 1 ≤ e.seat → e.seat ≤ n →
    AreOfSeats n (H ++ e ∷ [])
seated_more n H e seated least most k x at = elim (more_holds H e k x at) [
  | inl old ↦ seated k x old.1
  | inr last ↦ rw last.1 (least, most)
]

pub counted_more : (counts : List ℕ) (H : List Entry) (e : Entry) (s c : ℕ) → AreSeatCounts counts H →
    length counts ≡ MAX_SEATS → e.seat ≡ s + 1 → s < MAX_SEATS → c ≡ get_or counts s 0 + 1 →
    AreSeatCounts (set counts s c) (H ++ e ∷ [])
counted_more counts H e s c counted places own inside more t below = elim (cases_eq t s) [
  | inl same ↦
      let mine = own_more (t + 1) H e (own ∙ ap (λ i. i + 1) (sym same)) in
      let before = counted t below in
      let within : s < length counts = omega arith in
      let now : get_or (set counts s c) t 0 ≡ c =
      ap (λ i. get_or (set counts s c) i 0) same ∙ get_or-set_same counts s c 0 within in
      let size : length (entries_of (t + 1) (H ++ e ∷ [])) ≡ length (entries_of (t + 1) H) + 1 =
      ap length mine ∙ length_push (entries_of (t + 1) H) (length H, e) in
      let at : get_or counts s 0 ≡ get_or counts t 0 = ap (λ i. get_or counts i 0) (sym same) in
      omega arith
  | inr apart ↦
      let another : e.seat ≢ t + 1 = λ is. apart (omega arith) in
      get_or-set_other counts s t c 0 apart ∙ counted t below ∙ ap length (sym (other_more (t + 1) H e another))
]

pub counted_none : (counts : List ℕ) → ((s : ℕ) → s < MAX_SEATS → get_or counts s 0 ≡ 0) → AreSeatCounts counts []
counted_none counts zeros s below = zeros s below

none_from : (s n : ℕ) (H : List Entry) → ((k : ℕ) (e : Entry) → slice_get H k ≡ Some e → e.seat ≢ s) →
    entries_from s n H ≡ []
none_from s n [] others = refl
none_from s n (e ∷ H) others =
    ap (λ b. cond b ((n, e) ∷ entries_from s (n + 1) H) (entries_from s (n + 1) H)) (ne_eqb e.seat s (others 0 e refl))
    ∙ none_from s (n + 1) H (λ k x at. others (suc k) x at)

pub none_past : (n s : ℕ) (H : List Entry) → AreOfSeats n H → n < s → entries_of s H ≡ []
none_past n s H seated prefix = none_from s 0 H (λ k e at is. let few = (seated k e at).1 in omega arith)

-- the sum of m values of f, from that at a on
abbrev total : (ℕ → ℕ) → ℕ → ℕ → ℕ
total f a zero = 0
total f a (suc m) = f a + total f (a + 1) m

total-same : (f g : ℕ → ℕ) → ((s : ℕ) → f s ≡ g s) → (a m : ℕ) → total f a m ≡ total g a m
total-same f g same a zero = refl
total-same f g same a (suc m) = omega (arith, same a, total-same f g same (a + 1) m)

total-add : (f g : ℕ → ℕ) (a m : ℕ) → total (λ s. f s + g s) a m ≡ total f a m + total g a m
total-add f g a zero = omega arith
total-add f g a (suc m) = omega (arith, total-add f g (a + 1) m)

total-zero : (a m : ℕ) → total (λ s. 0) a m ≡ 0
total-zero a zero = refl
total-zero a (suc m) = omega (arith, total-zero (a + 1) m)

sum_is-total : (f : ℕ → ℕ) (a : ℕ) (xs : List ℕ) → ((i : ℕ) → i < length xs → get_or xs i 0 ≡ f (a + i)) →
    sum xs ≡ total f a (length xs)
sum_is-total f a [] same = refl
sum_is-total f a (x ∷ xs) same =
    let head : x ≡ f (a + 0) = same 0 (omega arith) in
    let start : a + 0 ≡ a = omega arith in
    let first : x ≡ f a = head ∙ ap f start in
    let rest = sum_is-total f (a + 1) xs (λ i below.
    let next : a + suc i ≡ (a + 1) + i = omega arith in
    same (suc i) (omega arith) ∙ ap f next) in
    omega (arith, sum_by-cons (λ y. y) x xs)

-- 1 at the place of the seat b, and 0 elsewhere
abbrev place_of : ℕ → ℕ → ℕ
place_of b s = cond (b == s + 1) 1 0

place-before : (b a m : ℕ) → b ≤ a → total (place_of b) a m ≡ 0
place-before b a zero before = refl
place-before b a (suc m) before =
    let apart : b ≢ a + 1 = λ is. omega arith in
    let first : place_of b a ≡ 0 = ap (λ t. cond t 1 0) (ne_eqb b (a + 1) apart) in
    omega (arith, place-before b (a + 1) m (omega arith))

place-within : (b a m : ℕ) → a < b → b ≤ a + m → total (place_of b) a m ≡ 1
place-within b a zero prefix within = absurd (omega arith)
place-within b a (suc m) prefix within = elim (cases_eq b (a + 1)) [
  | inl here ↦
      let first : place_of b a ≡ 1 = ap (λ t. cond t 1 0) (eq-eqb b (a + 1) here) in
      omega (arith, place-before b (a + 1) m (omega arith))
  | inr apart ↦
      let first : place_of b a ≡ 0 = ap (λ t. cond t 1 0) (ne_eqb b (a + 1) apart) in
      omega (arith, place-within b (a + 1) m (omega arith) (omega arith))
]

length-cond : {X : Type 0} (b : Bool) (x : X) (xs : List X) → length (cond b (x ∷ xs) xs) ≡ cond b 1 0 + length xs
length-cond true x xs = omega arith
length-cond false x xs = omega arith

counted_from : (m n : ℕ) (H : List Entry) → AreOfSeats m H →
    total (λ s. length (entries_from (s + 1) n H)) 0 m ≡ length H
counted_from m n [] seated = total-zero 0 m
counted_from m n (e ∷ H) seated =
    let (least, most) = seated 0 e refl in
    let later : ℕ → ℕ = λ s. length (entries_from (s + 1) (n + 1) H) in
    let apart = total-same (λ s. length (entries_from (s + 1) n (e ∷ H))) (λ s. place_of e.seat s + later s)
    (λ s. length-cond (e.seat == s + 1) (n, e) (entries_from (s + 1) (n + 1) H)) 0 m in
    let both = total-add (place_of e.seat) later 0 m in
    let one = place-within e.seat 0 m (omega arith) (omega arith) in
    let rest = counted_from m (n + 1) H (λ k x at. seated (suc k) x at) in
    omega arith

pub seats_counted : (n : ℕ) (counts : List ℕ) (H : List Entry) → length counts ≡ n →
    ((i : ℕ) → i < n → get_or counts i 0 ≡ length (entries_of (i + 1) H)) → AreOfSeats n H → sum counts ≡ length H
seats_counted n counts H places counted seated =
    let own : ℕ → ℕ = λ s. length (entries_of (s + 1) H) in
    let start : (i : ℕ) → 0 + i ≡ i = λ i. omega arith in
    sum_is-total own 0 counts (λ i below. counted i (omega arith) ∙ ap own (sym (start i)))
    ∙ ap (total own 0) places ∙ counted_from n 0 H seated

pub all_counted : (counts : List ℕ) (H : List Entry) → AreSeatCounts counts H → length counts ≡ MAX_SEATS →
    AreOfSeats MAX_SEATS H → sum counts ≡ length H
all_counted counts H counted places seated = seats_counted MAX_SEATS counts H places counted seated
