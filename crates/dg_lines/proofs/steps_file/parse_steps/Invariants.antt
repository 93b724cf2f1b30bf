-- The steps so far are those of the lines that were read.
use Rattle.dg_lines.specs.Cuts.{lines}
use Rattle.dg_lines.proofs.Schedule.{AreRead}
use Rattle.dg_lines.proofs.steps_file.parse_steps.Given as goal

abbrev pub invariant-lines : goal.invariant-lines
invariant-lines g l = AreRead l.names (lines l.bytes) (lines l.line-iterator.rest.now) l.steps.items
