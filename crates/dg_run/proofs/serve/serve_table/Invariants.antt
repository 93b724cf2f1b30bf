use Rattle.dg_run.proofs.Common.{length, table_data_of}
use Rattle.dg_run.proofs.serve.serve_table.Given as goal

-- A table is named by its row, its start and its number of seats.
abbrev pub ghosts-serve_stream : goal.ghosts-serve_stream
ghosts-serve_stream g a = record { names = a.row; table = table_data_of a.table.now.start a.seats (length a.row.cells) }
