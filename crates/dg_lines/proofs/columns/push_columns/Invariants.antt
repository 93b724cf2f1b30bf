-- What stands at the end of the line are the columns of the vertices from the turn's one on, and there is room for the
-- others.
use Rattle.dg_lines.proofs.Common.{◌≡◌, ◌*◌, ◌-◌, ◌≤◌, drop, at}
use Rattle.dg_lines.specs.Columns.{columns}
use Rattle.dg_lines.proofs.columns.push_columns.Given as goal

abbrev pub invariant-loop-v : goal.invariant-loop-v
invariant-loop-v g l = record {
  inside : l.start ≤ 656;
  room : l.v * 41 ≤ l.start;
  written : drop l.start l.line
      ≡ columns (at (g.N.Amounts.numbers l.amounts)) l.v ((g.N.Amounts.numbers l.amounts).size - l.v);
}
