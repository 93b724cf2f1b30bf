-- Rows of cells.
--   RowNames           == the names of a row's cells and of its seats' tallies, in order
--   IsCapacity n       == a row may have n cells
--   IsLogFault n fault == a row of n cells is refused with the fault
use Rattle.std.specs.Prelude.{ℕ, ◌≤◌, List}
use Rattle.dg_rules.specs.declared.game.TheConstants.{MAX_ENTRIES}
use Rattle.dg_log.specs.declared.row.LogFault.{LogFault}
use Rattle.dg_log.specs.declared.row.LogFault.TheVariants.{Capacity, OutOfMemory}

pub record RowNames : Type 0 where
  pub cells : List ℕ
  pub tallies : List ℕ

abbrev pub IsCapacity : ℕ → Type 0
IsCapacity n = (1 ≤ n) × (n ≤ MAX_ENTRIES)

abbrev pub IsLogFault : ℕ → LogFault → Type 0
IsLogFault n Capacity = ¬ IsCapacity n
IsLogFault n OutOfMemory = IsCapacity n
