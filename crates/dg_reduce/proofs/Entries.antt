-- Entries of a script that are written one by one.
--   few_set  if each is within a limit, and one more is, then each is once that is written
use Rattle.dg_reduce.proofs.Common.{ℕ, ◌<◌, ◌≤◌, List, length, slice_set, get_or-set_same, get_or-set_other, inl, inr, slice_index_or, unsigned_abs, ℤ, cases_eq}
use Rattle.std.proofs.Common.{pos}

pub few_set : (limit : ℕ) (xs : List ℤ) (v : ℕ) (x : ℤ) → v < length xs → unsigned_abs x ≤ limit →
    ((w : ℕ) → unsigned_abs (slice_index_or xs w (pos 0)) ≤ limit) →
    (w : ℕ) → unsigned_abs (slice_index_or (slice_set xs v x) w (pos 0)) ≤ limit
few_set limit xs v x inside small few w = elim (cases_eq w v) [
  | inl same ↦ rw (same, get_or-set_same xs v x (pos 0) inside) small
  | inr other ↦ rw (get_or-set_other xs v w x (pos 0) other) (few w)
]
