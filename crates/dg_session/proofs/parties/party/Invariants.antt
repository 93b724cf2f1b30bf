use Rattle.dg_session.proofs.Common.{length, table_data_of}
use Rattle.dg_session.proofs.parties.party.Given as goal

-- A table is named by its row, its start and its number of seats.
abbrev pub ghosts-party_of : goal.ghosts-party_of
ghosts-party_of g a = record { names = a.row; table = table_data_of a.start.now (length a.scripts.now) (length a.row.cells) }
