-- As many marks are written as there were turns.
use Rattle.dg_lines.proofs.Common.{◌≡◌, ◌++◌}
use Rattle.dg_lines.specs.Columns.{marks}
use Rattle.dg_lines.proofs.columns.push_marks.Given as goal

abbrev pub invariant-marks : goal.invariant-marks
invariant-marks g l = l.text.items ≡ l.fn.text.items ++ marks l.counter
