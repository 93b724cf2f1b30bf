-- What many receipts say. An item is a number, the name of its cell and the entry that this holds.
--   entries_of items == the numbers with their entries
--   AreNamed row items == the cell of each item is that of its number
--   IsSetEnd end ps == end is the least number that those of the entries ps are less than
use Rattle.std.specs.Prelude.{◌≡◌, ℕ, ◌≤◌, List, [], ◌∷◌, map, slice_get, Some, ⊤}
use Rattle.dg_rules.specs.declared.entry.Entry.{Entry}
use Rattle.dg_log.specs.Numbered.{AreBelow}

abbrev pub entries_of : List (ℕ × ℕ × Entry) → List (ℕ × Entry)
entries_of items = map (λ x. (x.0, x.2)) items

abbrev pub AreNamed : List ℕ → List (ℕ × ℕ × Entry) → Type 0
AreNamed row [] = ⊤
AreNamed row (x ∷ items) = (slice_get row x.0 ≡ Some x.1) × AreNamed row items

abbrev pub IsSetEnd : ℕ → List (ℕ × Entry) → Type 0
IsSetEnd end ps = AreBelow end ps × ((n : ℕ) → AreBelow n ps → end ≤ n)
