use Rattle.std.proofs.Common.{length}
use Rattle.dg_log.specs.Tables.{table_data_of}
use Rattle.dg_memory_tests.proofs.tables.on_a_table.Given as goal

-- A table is named by its row, its start and its number of seats.
abbrev pub ghosts-opened : goal.ghosts-opened
ghosts-opened g a = record { names = a.row; table = table_data_of a.file.now.start a.count (length a.row.cells) }
