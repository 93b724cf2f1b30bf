use Rattle.dg_lines.proofs.Common.{sym, append-nil}
use Rattle.dg_lines.specs.Columns.{marks}
use Rattle.dg_lines.proofs.Rows.{marks_more}
use Rattle.dg_lines.proofs.columns.push_marks.Goals as goal

pub marks-init : goal.marks-init
unfolding marks
marks-init g c = sym (append-nil c.args.text.now.items)

pub marks-preserved : goal.marks-preserved
marks-preserved g c =
    marks_more _ _ c.args.text.now.items c.marks.counter c.marks.invariant c.in_ok-extend_from_slice.ensures.items
