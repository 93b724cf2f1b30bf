-- What the name of a table stands for, besides its cells.
--   TableData == the start of its game, how many seats it has, and how many entries its history
--                may have
--   table_data_of start seats capacity == a table with these
use Rattle.std.specs.Prelude.{ℕ}
use Rattle.dg_chips.specs.Starts.{StartData}

pub record TableData : Type 0 where
  pub start : StartData
  pub seats : ℕ
  pub capacity : ℕ

abbrev pub table_data_of : StartData → ℕ → ℕ → TableData
table_data_of start seats capacity = record { start = start; seats = seats; capacity = capacity }
