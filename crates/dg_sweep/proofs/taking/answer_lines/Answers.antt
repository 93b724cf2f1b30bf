use Rattle.dg_sweep.proofs.Common.{◌++◌, ap, ◌∙◌, part_plain, part_whole, part_line, line_shorter}
use Rattle.dg_sweep.proofs.Taken.{so_far_none, so_far_line, so_far_rest}
use Rattle.dg_sweep.proofs.taking.answer_lines.Goals as goal

pub lines-init : goal.lines-init
lines-init c = so_far_none _ c.args.bytes.now c.args.text.now.items

pub returns-in_default-clause-answered : goal.returns-in_default-clause-answered
returns-in_default-clause-answered c =
    so_far_rest _ c.args.bytes.now c.lines.rest.now c.args.text.now.items c.lines.text.items
    c.cut.result.0.now
    c.lines.invariant (part_plain c.lines.rest.now c.cut.result.0.now c.cut.ensures.before)
    (part_whole c.lines.rest.now c.cut.result.0.now c.cut.result.1 c.cut.ensures.before c.cut.ensures.after
    c.in_default.is)

pub lines-smaller : goal.lines-smaller
lines-smaller c =
    line_shorter c.lines.rest.now c.cut.result.0.now c.in-Some.after.now
    (part_line c.lines.rest.now c.cut.result.0.now c.cut.result.1 c.in-Some.after c.cut.ensures.before
    c.cut.ensures.after c.in-Some.is)

pub lines-preserved : goal.lines-preserved
lines-preserved c =
    so_far_line _ c.args.bytes.now c.lines.rest.now c.args.text.now.items c.lines.text.items
    c.cut.result.0.now
    c.in-Some.after.now _ _ c.lines.invariant (part_plain c.lines.rest.now c.cut.result.0.now c.cut.ensures.before)
    (part_line c.lines.rest.now c.cut.result.0.now c.cut.result.1 c.in-Some.after c.cut.ensures.before
    c.cut.ensures.after c.in-Some.is)
    c.in_ok-answer_line.ensures
    (c.in_ok-extend_from_slice.ensures.items ∙ ap (λ l. c.lines.text.items ++ l) c.deref.ensures.value)
