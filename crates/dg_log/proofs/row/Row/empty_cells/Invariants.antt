use Rattle.dg_log.proofs.Common.{◌≡◌, vec_len}
use Rattle.dg_log.proofs.row.Row.empty_cells.Given as goal

-- As many cells as turns.
abbrev pub invariant-loop : goal.invariant-loop
invariant-loop l = vec_len l.cells ≡ l.counter
