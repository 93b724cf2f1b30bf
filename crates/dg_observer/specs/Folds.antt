-- States that are kept while a history is read.
--   Observed S F                      == a state, the entries that were read, and what goes on
--   MayCallAnywhere pre               == what may be called so, may be at every state and entry
--   GoesOn post goes_on               == what so returns, goes on as the relation says
--   Folds begins goes_on entries last == from a first state one step for each of the entries, in order, leads
--                                        to the last state
--   AreNumbered ps                    == the entries ps are numbered from 0 on
use Rattle.std.specs.Prelude.{◌≡◌, ℕ, List, slice_get, Some, Result, Ok}
use Rattle.std.specs.Borrow.{Bor}
use Rattle.std.specs.List.{FoldsTo}
use Rattle.dg_rules.specs.declared.entry.Entry.{Entry}

pub record Observed (S F : Type 0) : Type 0 where
  pub state : S
  pub entries : List Entry
  pub step : F

pub record Folds {S : Type 0} (begins : S → Type 0) (goes_on : S → Entry → S → Type 0)
    (entries : List Entry) (last : S) : Type 0 where
  pub first : S
  pub begun : begins first
  pub steps : FoldsTo goes_on first entries last

abbrev pub MayCallAnywhere : {S : Type 0} → (Bor S → Bor Entry → Type 0) → Type 0
MayCallAnywhere {S} pre = (p : Bor S) (q : Bor Entry) → pre p q

abbrev pub GoesOn : {S E : Type 0} → (Bor S → Bor Entry → Result S E → Type 0) → (S → Entry → S → Type 0) → Type 0
GoesOn {S} {E} post goes_on = (p : Bor S) (q : Bor Entry) (next : S) → post p q (Ok next) → goes_on p.now q.now next

abbrev pub AreNumbered : List (ℕ × Entry) → Type 0
AreNumbered ps = (i : ℕ) (p : ℕ × Entry) → slice_get ps i ≡ Some p → p.0 ≡ i
