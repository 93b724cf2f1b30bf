use Rattle.dg_sweep.proofs.Common.{◌≡◌, ◌≢◌, [], arith, rules, tests, common_steps, on_ok_weaker}
use Rattle.dg_sweep.proofs.Taken.{nothing, takes_no_end, takes_end}
use Rattle.dg_sweep.proofs.taking.SweepProgress.take_end.Goals as goal

pub returns-then-is_empty : goal.returns-then-is_empty
returns-then-is_empty c =
    let none : c.args.self.now.pending.items ≡ [] =
    nothing c.args.self.now.pending.items (grind (arith, common_steps)) in
    takes_no_end _ c.args.self.now.pending.items c.clear.new.self.items c.clear.ensures.items none

pub returns : goal.returns
returns c =
    let some : c.args.self.now.pending.items ≢ [] = search (rules, tests) in
    on_ok_weaker c.answer_line.result
    (takes_end _ c.args.self.now.pending.items c.answer_line.new.answer.items c.deref.result.now some
    c.deref.ensures.value) c.answer_line.ensures
