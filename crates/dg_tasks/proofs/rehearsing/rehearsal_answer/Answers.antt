use Rattle.dg_tasks.proofs.Common.{arith, ap, not, ◌∙◌, Lines}
use Rattle.dg_lines.specs.Cuts.{lines}
use Rattle.dg_tasks.proofs.UnderWay.{under_way_none, one_played, one_refused, one_passed, lines_read, all_played, first_fault, never_unseated}
use Rattle.dg_tasks.proofs.rehearsing.rehearsal_answer.Goals as goal

pub lines-init : goal.lines-init
lines-init c =
    rw c.start.ensures at
    (under_way_none c.start.result.now c.args.table.now.names c.args.steps.now
    c.into_iter-bytes-iterator.result.rest.now
    c.new-rehearsal.result c.new-text.result.items c.new-rehearsal.ensures c.new-text.ensures.items
    (ap (λ (l : Lines). l.rest.now) c.into_iter-bytes-iterator.ensures.into_iter_gives ∙ c.new-bytes-items.ensures))

pub overflow_add-line : goal.overflow_add-line
overflow_add-line c =
    omega (
      arith,
      lines_read c.args.table.now.start c.args.table.now.names (lines c.lines.bytes-iterator.rest.now)
          (lines c.next.new.self.rest.now)
          c.args.steps.now c.in-Some.bytes.now c.lines.line c.lines.rehearsal c.lines.text.items c.lines.stopped
          c.in-Some.ensures.steps c.lines.invariant,
    )

pub lines-preserved-in-Ok-play_step : goal.lines-preserved-in-Ok-play_step
lines-preserved-in-Ok-play_step c =
    one_played c.args.table.now.start c.args.table.now.names c.names-names.result.now (lines c.args.steps.now)
    (lines c.lines.bytes-iterator.rest.now)
    (lines c.next.new.self.rest.now) c.in-Some.bytes.now c.lines.line c.lines.rehearsal c.play_step.new.rehearsal
    c.lines.text.items c.play_step.new.text.items
    c.lines.stopped c.in-Ok.step c.names-names.ensures.value c.in-Some.ensures.steps c.in-Ok.ensures.step
    (ap not c.if-is_none.ensures)
    c.in-Ok-play_step.ensures c.lines.invariant

pub lines-preserved-in-Err-play_step : goal.lines-preserved-in-Err-play_step
lines-preserved-in-Err-play_step c =
    one_refused c.args.table.now.start c.args.table.now.names c.names-names.result.now (lines c.args.steps.now)
    (lines c.lines.bytes-iterator.rest.now)
    (lines c.next.new.self.rest.now) c.in-Some.bytes.now c.lines.line c.lines.rehearsal c.play_step.new.rehearsal
    c.lines.text.items c.play_step.new.text.items
    c.lines.stopped c.in-Ok.step c.in-Err-play_step.fault c.names-names.ensures.value c.in-Some.ensures.steps
    c.in-Ok.ensures.step
    (ap not c.if-is_none.ensures) c.in-Err-play_step.ensures c.lines.invariant

pub lines-preserved : goal.lines-preserved
lines-preserved c =
    one_passed c.args.table.now.start c.args.table.now.names c.names-names.result.now (lines c.args.steps.now)
    (lines c.lines.bytes-iterator.rest.now)
    (lines c.next.new.self.rest.now) c.in-Some.bytes.now c.lines.line c.lines.rehearsal c.lines.text.items
    c.lines.stopped c.in-Ok.step
    c.names-names.ensures.value c.in-Some.ensures.steps c.in-Ok.ensures.step
    (ap not c.if-is_none.ensures) c.lines.invariant

pub returns-in-None-stopped-clause-printed : goal.returns-in-None-stopped-clause-printed
returns-in-None-stopped-clause-printed c =
    all_played c.args.table.now.start c.args.table.now.names (lines c.args.steps.now)
    (lines c.lines.bytes-iterator.rest.now) c.lines.line c.lines.rehearsal
    c.lines.text.items c.lines.stopped c.in-None.ensures.steps.0 c.in-None-stopped.is c.lines.invariant

pub task_fault-requires : goal.task_fault-requires
task_fault-requires c i is =
    never_unseated c.args.table.now.start.graph.size c.args.table.now.names (lines c.args.steps.now) i
    (rw is at (first_fault c.args.table.now.start c.args.table.now.names (lines c.args.steps.now)
    (lines c.lines.bytes-iterator.rest.now)
    c.lines.line c.lines.rehearsal c.lines.text.items c.lines.stopped c.in-Some-stopped.fault c.in-None.ensures.steps.0
    c.in-Some-stopped.is c.lines.invariant))

pub returns-in-Some-stopped-clause-refused : goal.returns-in-Some-stopped-clause-refused
returns-in-Some-stopped-clause-refused c =
    c.task_fault.ensures _ _ _ (first_fault c.args.table.now.start c.args.table.now.names (lines c.args.steps.now)
    (lines c.lines.bytes-iterator.rest.now)
    c.lines.line c.lines.rehearsal c.lines.text.items c.lines.stopped c.in-Some-stopped.fault c.in-None.ensures.steps.0
    c.in-Some-stopped.is c.lines.invariant)
