-- What the name of a table stands for if there is no table.
--   no_row_names == no cells and no tallies
--   no_table     == no vertices, no seats and no entries
use Rattle.std.specs.Prelude.{[]}
use Rattle.dg_log.specs.Rows.{RowNames}
use Rattle.dg_log.specs.Tables.{TableData}

abbrev pub no_row_names : RowNames
no_row_names = record { cells = []; tallies = [] }

abbrev pub no_table : TableData
no_table = record {
  start = record {
    graph = record { size = 0; table = [] };
    divisor = record { size = 0; numbers = [] };
    q = 0;
  };
  seats = 0;
  capacity = 0;
}
