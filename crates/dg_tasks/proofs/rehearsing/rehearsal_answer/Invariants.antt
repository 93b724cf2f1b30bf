use Rattle.dg_lines.specs.Cuts.{lines}
use Rattle.dg_tasks.proofs.UnderWay.{IsUnderWay}
use Rattle.dg_tasks.proofs.rehearsing.rehearsal_answer.Given as goal

abbrev pub invariant-lines : goal.invariant-lines
invariant-lines l =
    IsUnderWay l.table.start l.table.names (lines l.steps)
    (lines l.bytes-iterator.rest.now) l.line l.rehearsal l.text.items l.stopped
