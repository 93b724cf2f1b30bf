use Rattle.std.proofs.Common.{length}
use Rattle.dg_log.specs.Tables.{table_data_of}
use Rattle.dg_run_tests.proofs.table_tests.on_a_table.Given as goal

-- A table is named by its row, its start and its number of seats.
abbrev pub ghosts-opened : goal.ghosts-opened
ghosts-opened g a = record { names = a.row; table = table_data_of a.start.now a.count (length a.row.cells) }
