-- A line that is accepted adds its step; and what lines spell has seats.
use Rattle.dg_lines.specs.Cuts.{lines}
use Rattle.dg_lines.proofs.Schedule.{one_more, steps_seated}
use Rattle.dg_lines.proofs.steps_file.parse_steps.Goals as goal

pub lines-preserved : goal.lines-preserved
lines-preserved g c =
    rw c.in-Ok-push.ensures.items
    (one_more c.args.names.now (lines c.args.bytes.now) (lines c.lines.line-iterator.rest.now)
    (lines c.next.new.self.rest.now)
    c.in-Some.line.now c.lines.steps.items c.in-Ok.step c.in-Some.ensures.steps c.in-Ok.ensures.step c.lines.invariant)

pub returns-clause-seated : goal.returns-clause-seated
returns-clause-seated g c =
    steps_seated c.args.names.now c.lines.steps.items c.lines.invariant.front c.lines.invariant.accepted
