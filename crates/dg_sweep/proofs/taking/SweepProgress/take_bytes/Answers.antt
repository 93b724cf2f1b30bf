use Rattle.dg_sweep.proofs.Common.{part_plain, part_whole, part_line, on_ok_weaker}
use Rattle.dg_sweep.proofs.Taken.{takes_part, takes_lines}
use Rattle.dg_sweep.proofs.taking.SweepProgress.take_bytes.Goals as goal

pub returns-in_default-clause-taken : goal.returns-in_default-clause-taken
returns-in_default-clause-taken g c =
    takes_part _ c.args.self.now.pending.items c.args.bytes.now c.cut.result.0.now
    c.keep_part.new.pending.items
    c.clear.new.self.items c.clear.ensures.items (part_plain c.args.bytes.now c.cut.result.0.now c.cut.ensures.before)
    (part_whole c.args.bytes.now c.cut.result.0.now c.cut.result.1 c.cut.ensures.before c.cut.ensures.after
    c.in_default.is)
    c.in_ok-keep_part.ensures.kept

pub returns-clause-taken : goal.returns-clause-taken
returns-clause-taken g c =
    on_ok_weaker c.keep_part-2.result
    (takes_lines _ c.args.self.now.pending.items c.args.bytes.now c.cut.result.0.now
    c.in-Some.after.now
    c.keep_part.new.pending.items c.answer_line.new.answer.items c.answer_batch.new.text.items
    c.in_ok-part.part.now
    c.keep_part-2.new.pending.items (part_plain c.args.bytes.now c.cut.result.0.now c.cut.ensures.before)
    (part_line c.args.bytes.now c.cut.result.0.now c.cut.result.1 c.in-Some.after c.cut.ensures.before
    c.cut.ensures.after c.in-Some.is)
    c.in_ok-keep_part.ensures.kept c.deref.result.now c.deref.ensures.value c.in_ok-answer_line.ensures
    c.in_ok-part.ensures.answered
    c.clear-2.new.self.items c.clear-2.ensures.items)
    c.keep_part-2.ensures.kept
