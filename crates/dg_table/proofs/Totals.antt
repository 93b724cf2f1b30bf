-- What is counted at the close of a table.
--   totals       the counts of what the lock holds are those of the seats, and add up to the number of entries
--   history_of   the history of what the lock holds is legal, and its entries are of the table's seats
--   longer_history   the longer of two histories of a table is one
use Rattle.dg_table.proofs.Common.{◌≡◌, ℕ, ◌+◌, ◌≤◌, List, length, get_or, arith, sym, ap, subst, ◌∙◌, inl, inr, get_or_past, cases_lt, StartData, position_after, ShowsPosition, GameState, Entry, MAX_SEATS, IsLongerPrefix, HoldsAllSeats, AreAuditTotals, IsHistoryOf, IsUnderLock, SeatView, entries_of, Ghosts, Audit, TableData}
use Rattle.dg_table.proofs.Counts.{none_past, all_counted}

counted_at : {o : StartData} {seats : ℕ} {H : List Entry} {game : GameState} {counts : List ℕ} (s : ℕ) →
    IsUnderLock o seats H game counts → get_or counts s 0 ≡ length (entries_of (s + 1) H)
counted_at {o} {seats} {H} {game} {counts} s held = elim (cases_lt s MAX_SEATS) [
  | inl inside ↦ held.counted s inside
  | inr prefix ↦
      let none = none_past seats (s + 1) H held.seated (omega (arith, held.few)) in
      get_or_past counts s 0 (omega (arith, held.places)) ∙ ap length (sym none)
]

pub totals : {N : Type 0} {named : Ghosts N} {table : TableData} {game : GameState} {counts : List ℕ} (a : Audit N named)
    (xs : List SeatView) →
    IsUnderLock table.start table.seats a.pen.entries game counts → HoldsAllSeats a.pen.entries xs → a.entries ≡ game.entries →
    a.gifts ≡ game.gifts → a.graph ≡ game.graph → a.position ≡ game.amounts → a.calls ≡ counts → AreAuditTotals table xs a
totals {table = table} {game} {counts} a xs held all entries gifts graph position calls =
    let H = a.pen.entries in
    record {
      entries = entries ∙ held.game'.entries;
      gifts = gifts ∙ held.game'.gifts;
      graph = graph ∙ held.game'.graph;
      position = subst (ShowsPosition (position_after table.start H)) (sym position) held.game'.amounts;
      calls = λ i x at s number.
          rw calls (counted_at s held ∙ ap (λ n. length (entries_of n H)) (sym number) ∙ ap length (all i x at).mine);
      others = λ s past below.
          rw calls (counted_at s held ∙ ap length (none_past table.seats (s + 1) H held.seated (omega arith)));
      all = rw (calls, entries) (all_counted counts H held.counted held.places (λ k e at.
          let (least, most) = held.seated k e at in
          (least, omega (arith, held.few))) ∙ sym held.game'.entries);
    }

pub history_of : {table : TableData} {H : List Entry} {game : GameState} {counts : List ℕ} →
    IsUnderLock table.start table.seats H game counts → length H ≤ table.capacity → IsHistoryOf table H
history_of held few = record { legal = held.legal; few = few; seated = held.seated }

pub longer_history : {table : TableData} {K H M : List Entry} → IsHistoryOf table K → IsHistoryOf table H →
    IsLongerPrefix K H M → IsHistoryOf table M
longer_history {table} {K} {H} {M} first second longer = elim (cases_lt (length H) (length K)) [
  | inl shorter ↦ subst (IsHistoryOf table) (sym (longer.first_longer shorter)) first
  | inr more ↦ subst (IsHistoryOf table) (sym (longer.second_longer (omega (arith, more)))) second
]
