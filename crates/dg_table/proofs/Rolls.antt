-- The roll of a table, and the claims of its seats.
--   roll_none    the roll of seats that made no call
--   roll_more    the roll after one more entry, whose seat has signed
--   tally_more   the tally of a seat after one more call of its own
--   tally_shown  a tally that is set to what a seat's is
--   set_same     a place that is set to what it holds
use Rattle.dg_table.proofs.Common.{◌≡◌, ◌≢◌, ℕ, zero, suc, ◌+◌, List, [], ◌∷◌, ◌++◌, length, map, slice_get, Some, arith, sym, ap, ◌∙◌, inl, inr, length_push, cases_eq, same_Some, slice_set, Entry, SeatView, entries_of, IsRollAfter, IsTallySigned, tally_of}
use Rattle.dg_table.proofs.Entries.{own_more, other_more}
use Rattle.dg_table.proofs.Placed.{get_set, get_other}

pub roll_none : (names : List ℕ) → IsRollAfter [] (map (λ _. (0, 0)) names)
roll_none [] i t at = absurd cc
roll_none (name ∷ names) zero t at =
    let none : t ≡ (0, 0) = same_Some t (0, 0) (sym at) in
    let found : t.0 ≡ 0 = ap (λ (q : ℕ × ℕ). q.0) none in
    (omega arith, ap (λ (q : ℕ × ℕ). q.1) none)
roll_none (name ∷ names) (suc i) t at = roll_none names i t at

pub roll_more : {ts ts' : List (ℕ × ℕ)} {x y : SeatView} (H : List Entry) (e : Entry) → IsRollAfter H ts →
    e.seat ≡ x.number → y.prefix ≡ H ++ e ∷ [] → y.mine ≡ x.mine ++ (length H, e) ∷ [] → IsTallySigned x y ts ts' →
    IsRollAfter (H ++ e ∷ []) ts'
roll_more {ts} {ts'} {x} {y} H e roll own prefix mine signed i t at = elim (cases_eq i signed.place) [
  | inl same ↦
      let tally : t ≡ tally_of y = same_Some t (tally_of y)
      (sym at ∙ ap (λ (us : List (ℕ × ℕ)). slice_get us i) signed.now
      ∙ ap (slice_get (slice_set ts signed.place (tally_of y))) same
      ∙ get_set ts signed.place (tally_of x) (tally_of y) signed.was) in
      let found : t.0 ≡ length (H ++ e ∷ []) = ap (λ (q : ℕ × ℕ). q.0) tally ∙ ap length prefix in
      let number : i + 1 ≡ x.number = ap (λ k. k + 1) same ∙ signed.number in
      let now : t.1 ≡ length x.mine + 1 =
      ap (λ (q : ℕ × ℕ). q.1) tally ∙ ap length mine ∙ length_push x.mine (length H, e) in
      let more : length (entries_of (i + 1) (H ++ e ∷ [])) ≡ length (entries_of (i + 1) H) + 1 =
      ap length (own_more (i + 1) H e (own ∙ sym number)) ∙ length_push (entries_of (i + 1) H) (length H, e) in
      let was : length x.mine ≡ length (entries_of (i + 1) H) =
      (roll signed.place (tally_of x) signed.was).1 ∙ ap (λ k. length (entries_of (k + 1) H)) (sym same) in
      (omega (arith, found), omega (arith, now, more, was))
  | inr apart ↦
      let there : slice_get ts i ≡ Some t = sym (get_other ts signed.place i (tally_of y) apart)
      ∙ ap (λ (us : List (ℕ × ℕ)). slice_get us i) (sym signed.now) ∙ at in
      let was = roll i t there in
      let another : e.seat ≢ i + 1 = λ is. apart (omega (arith, is, own, signed.number)) in (
        omega (arith, was.0, length_push H e),
        was.1 ∙ ap length (sym (other_more (i + 1) H e another)),
      )
]

pub tally_more : {t : ℕ × ℕ} {found : ℕ} {K M : List Entry} {qs : List (ℕ × Entry)} (n : ℕ) (ps : List (ℕ × Entry))
    (q : ℕ × Entry) → n ≡ length ps → t ≡ (found, n + 1) → found ≡ length K → M ≡ K → qs ≡ ps ++ q ∷ [] →
    t ≡ (length M, length qs)
tally_more {t} {found} {K} {M} {qs} n ps q own is long history mine =
    let first : found ≡ length M = long ∙ ap length (sym history) in
    let second : n + 1 ≡ length qs = omega (arith, own, length_push ps q, ap length mine) in
    is ∙ (λ i. (first i, second i))

pub set_same : {A : Type 0} (xs : List A) (i : ℕ) (x : A) → slice_get xs i ≡ Some x → slice_set xs i x ≡ xs
set_same [] i x at = absurd cc
set_same (w ∷ xs) zero x at = ap (λ v. v ∷ xs) (same_Some x w (sym at))
set_same (w ∷ xs) (suc i) x at = ap (λ ys. w ∷ ys) (set_same xs i x at)

pub tally_shown : (t : ℕ × ℕ) {x : ℕ × ℕ} {found l k : ℕ} → t ≡ (l, k) → x ≡ (found, t.1 + 0) → found ≡ l → x ≡ (l, k)
tally_shown t {x} {found} {l} {k} tally is long =
    let own : t.1 ≡ k = ap (λ (p : ℕ × ℕ). p.1) tally in
    let second : t.1 + 0 ≡ k = omega arith in
    is ∙ (λ i. (long i, second i))
