-- What stands at the end of the line are the pairs of the vertices from the turn's one on, and there is room for the
-- others.
use Rattle.dg_lines.proofs.Common.{◌≡◌, ◌*◌, ◌≤◌, drop, at}
use Rattle.dg_lines.specs.Texts.{more_pairs}
use Rattle.dg_lines.proofs.text.push_pairs.Given as goal

abbrev pub invariant-loop-v : goal.invariant-loop-v
invariant-loop-v g l = record {
  inside : l.start ≤ 928;
  room : l.v * 58 ≤ l.start;
  written : drop l.start l.line ≡ more_pairs (drop l.v l.names) (at (g.N.Amounts.numbers l.amounts)) l.v;
}
