-- What rows tell by what is paid.
--   rows_pay     if all losses can be paid for, of what the rows say that is held, by what they say that is paid, the rows win
--   rows_told    and so for what a search tells
--   rising_set   numbers that rise, with one more that is no less than the last
use Rattle.dg_rank.proofs.Common.{◌≡◌, ℕ, ◌+◌, ◌-◌, ◌<◌, ◌≤◌, ⊎_elim, Bool, true, false, List, arith, cases_eq, get_or-set_other, get_or-set_same, ints, length, set, replicate, get_or-replicate, cases_Bool, slice_index, ℤ, pos, ◌≤ℤ◌, unsigned_abs, Option, Some, None, MatchOption, Result, Ok, Err, MatchResult, ⊤, Multigraph, sum_below-one, win_more, Vector, at}
use Rattle.dg_rank.specs.declared.boxes.Stopped.{Stopped}
use Rattle.dg_rank.specs.declared.prices.Prices.{Prices}
use Rattle.dg_rank.specs.Folding.{RowsWin, IsHeldByRows, ArePaidByRows}
use Rattle.dg_rank.specs.Prices.{paid, left_after, BoxPays, IsUnpaid}

pub rows_pay : (g : Multigraph) (L : ℕ → Bool) (W : List (List ℤ)) (P : Prices) (x : Vector) (k : ℕ) → g.size ≤ 16 →
    IsHeldByRows g L W x → ArePaidByRows L W k P →
    BoxPays g (at x) (paid (Some P) (replicate 16 0)) (replicate 16 k) k → RowsWin g L W k
rows_pay g L W P x k few held rows pays D borne = win_more g (left_after (at x) (paid (Some P) (replicate 16 0)) borne.lost) D
    (λ v below.
    let none : slice_index (replicate 16 0) v ≡ 0 = get_or-replicate {A = ℕ} 16 v 0 0 (omega arith) in
    let some : pos 0 ≤ℤ borne.lost v = borne.effective v below in
    let lost : unsigned_abs (borne.lost v) ≤ k = omega (arith, ints, most v below) in
    let first : 0 + unsigned_abs (borne.lost v) ≡ unsigned_abs (borne.lost v) = omega arith in
    rw (none, first) (⊎_elim
    (λ (left : L v ≡ true).
    omega (
      arith,
      ints,
      held.unfolded v below left,
      rows.unfolded v 0 (omega arith) left (omega arith),
      rows.unfolded v (unsigned_abs (borne.lost v)) (omega arith) left lost,
      borne.unfolded v below left,
    ))
    (λ (out : L v ≡ false).
    omega (
      arith,
      ints,
      held.folded v below out,
      rows.folded v (unsigned_abs (borne.lost v)) (omega arith) out lost,
      borne.folded v below out,
    ))
    (cases_Bool (L v))))
    (pays borne.lost (record {
      effective = borne.effective;
      few = borne.few;
      within = λ v below. rw (get_or-replicate {A = ℕ} 16 v k 0 (omega arith)) (most v below);
    })) where
      most : (v : ℕ) → v < g.size → borne.lost v ≤ℤ pos k
      most v below = omega (
        arith,
        ints,
        sum_below-one g.size v borne.lost below (λ w low _. borne.effective w low),
        borne.few,
      )

rows_tell : (found : Option (List ℕ)) (g : Multigraph) (L : ℕ → Bool) (W : List (List ℤ)) (P : Prices) (x : Vector) (k : ℕ) →
    g.size ≤ 16 → IsHeldByRows g L W x → ArePaidByRows L W k P →
    MatchOption found (BoxPays g (at x) (paid (Some P) (replicate 16 0)) (replicate 16 k) k)
    (IsUnpaid g (at x) (paid (Some P) (replicate 16 0)) (replicate 16 k) k) →
    MatchOption found (RowsWin g L W k) (λ E. length E ≡ g.size)
rows_tell None g L W P x k few held rows pays = rows_pay g L W P x k few held rows pays
rows_tell (Some E) g L W P x k few held rows loss = loss.places

pub rows_told : (told : Result (Option (List ℕ)) Stopped) (g : Multigraph) (L : ℕ → Bool) (W : List (List ℤ)) (P : Prices)
    (x : Vector) (k : ℕ) (S : Stopped → Type 0) → g.size ≤ 16 → IsHeldByRows g L W x → ArePaidByRows L W k P →
    MatchResult told (λ found. MatchOption found (BoxPays g (at x) (paid (Some P) (replicate 16 0)) (replicate 16 k) k)
    (IsUnpaid g (at x) (paid (Some P) (replicate 16 0)) (replicate 16 k) k)) S →
    MatchResult told (λ found. MatchOption found (RowsWin g L W k) (λ E. length E ≡ g.size)) (λ _. ⊤)
rows_told (Ok found) g L W P x k S few held rows told = rows_tell found g L W P x k few held rows told
rows_told (Err stopped) g L W P x k S few held rows told = tt

pub rising_set : (P : List ℕ) (t x : ℕ) → t < length P → slice_index P (t - 1) ≤ x →
    ((r s : ℕ) → r ≤ s → s < t → slice_index P r ≤ slice_index P s) →
    (r s : ℕ) → r ≤ s → s < t + 1 → slice_index (set P t x) r ≤ slice_index (set P t x) s
rising_set P t x placed least rising r s less low = ⊎_elim
    (λ (last : s ≡ t). ⊎_elim
    (λ (same : r ≡ t). rw (last, same) (omega arith))
    (λ (earlier : r ≡ t → ⊥). rw last (omega (
      arith,
      get_or-set_same P t x 0 placed,
      get_or-set_other P t r x 0 earlier,
      rising r (t - 1) (omega arith) (omega arith),
    )))
    (cases_eq r t))
    (λ (earlier : s ≡ t → ⊥). omega (
      arith,
      get_or-set_other P t s x 0 earlier,
      get_or-set_other P t r x 0 (λ (same : r ≡ t). omega arith),
      rising r s less (omega arith),
    ))
    (cases_eq s t)
