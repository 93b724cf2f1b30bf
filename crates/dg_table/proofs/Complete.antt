-- A close to which all seats are handed in.
--   all_there      seats with the numbers of those that a table began with are complete
--   none_missing   a close with all seats is refused with 0
use Rattle.dg_table.proofs.Common.{◌≡◌, ℕ, zero, suc, ◌+◌, ◌-◌, ◌<◌, List, [], ◌∷◌, length, map, slice_get, Some, arith, refl, ap, ◌∙◌, inl, inr, same_Some, AreAllSeats, IsCloseRefused, AreFresh, SeatView, TableData}

abbrev numbers : List SeatView → List ℕ
numbers xs = map (λ (x : SeatView). x.number) xs

first_of : List ℕ → ℕ
first_of [] = 0
first_of (n ∷ ns) = n

others_of : List ℕ → List ℕ
others_of [] = []
others_of (n ∷ ns) = ns

some_at : (xs : List SeatView) (i : ℕ) → i < length xs → (x : SeatView) × (slice_get xs i ≡ Some x)
some_at [] i below = absurd (omega (arith, below))
some_at (x ∷ xs) zero below = (x, refl)
some_at (x ∷ xs) (suc i) below = some_at xs i (omega (arith, below))

number_at : (xs ys : List SeatView) (i : ℕ) (x : SeatView) → numbers ys ≡ numbers xs → slice_get xs i ≡ Some x →
    (y : SeatView) × (slice_get ys i ≡ Some y) × (y.number ≡ x.number)
unfolding first_of others_of
number_at [] ys i x same at = absurd cc
number_at (w ∷ xs) [] i x same at = absurd cc
number_at (w ∷ xs) (y ∷ ys) zero x same at =
    (y, refl, ap first_of same ∙ ap (λ (z : SeatView). z.number) (same_Some w x at))
number_at (w ∷ xs) (y ∷ ys) (suc i) x same at = number_at xs ys i x (ap others_of same) at

pub all_there : (n : ℕ) (xs ys : List SeatView) → AreFresh n xs →
    map (λ (y : SeatView). y.number) ys ≡ map (λ (x : SeatView). x.number) xs → AreAllSeats n ys
all_there n xs ys fresh same s least most =
    let place : s ≡ s - 1 + 1 = omega (arith, least) in
    let (x, at) = some_at xs (s - 1) (omega (arith, fresh.count, least, most)) in
    let (y, there, number) = number_at xs ys (s - 1) x same at in
    let here : y.number ≡ s = omega (arith, number, fresh.number (s - 1) x at, place) in
    (s - 1, y, there, here)

pub none_missing : (table : TableData) (xs ys : List SeatView) (s : ℕ) → AreAllSeats table.seats xs →
    IsCloseRefused table xs ys s → s ≡ 0
none_missing table xs ys s complete refused = elim refused.refused [
  | inl missing ↦ absurd (missing.missing (complete s missing.seat.0 missing.seat.1))
  | inr none ↦ none.0
]
