-- Entries with their numbers in a history, as receipts tell of them.
--   AreBelow n ps        == the numbers of the entries ps are less than n
--   StandIn H ps         == each of the entries ps stands in the history H at its number
--   IsPrefixOf K H       == the history H begins with the entries K
--   IsLongerPrefix K H M == M is the longer of the histories K and H, and begins with both
use Rattle.std.specs.Prelude.{◌≡◌, ℕ, ◌<◌, ◌≤◌, List, [], ◌∷◌, ◌++◌, length, slice_get, Some, ⊤}
use Rattle.dg_rules.specs.declared.entry.Entry.{Entry}

abbrev pub AreBelow : ℕ → List (ℕ × Entry) → Type 0
AreBelow n [] = ⊤
AreBelow n (p ∷ ps) = (p.0 < n) × AreBelow n ps

abbrev pub StandIn : List Entry → List (ℕ × Entry) → Type 0
StandIn H [] = ⊤
StandIn H (p ∷ ps) = (slice_get H p.0 ≡ Some p.1) × StandIn H ps

abbrev pub IsPrefixOf : List Entry → List Entry → Type 0
IsPrefixOf K H = (rest : List Entry) × (H ≡ K ++ rest)

pub record IsLongerPrefix (K H M : List Entry) : Type 0 where
  pub first : IsPrefixOf K M
  pub second : IsPrefixOf H M
  pub second_longer : length K ≤ length H → M ≡ H
  pub first_longer : length H < length K → M ≡ K
