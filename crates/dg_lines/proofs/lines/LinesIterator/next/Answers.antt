-- The first line, and the lines of what stands after its newline.
use Rattle.dg_lines.proofs.Common.{◌<◌, length, refl, sym, ap, arith}
use Rattle.dg_lines.specs.Cuts.{lines}
use Rattle.dg_lines.proofs.Cutting.{lines_step}
use Rattle.dg_lines.proofs.lines.LinesIterator.next.Goals as goal

pub returns-clause-steps : goal.returns-clause-steps
returns-clause-steps c =
    lines_step c.args.self.now.rest.now c.cut.result.0.now c.cut.result.1 _ c.unwrap_or-self.result
    (sym c.if-is_empty.ensures) c.cut.ensures.before c.cut.ensures.after refl c.unwrap_or-self.ensures

pub returns-clause-goes : goal.returns-clause-goes
returns-clause-goes c =
    let fewer : length (lines c.unwrap_or-self.result.now) < length (lines c.args.self.now.rest.now) =
    omega (arith, ap length (returns-clause-steps c)) in
    record { on = λ _. (tt, tt, fewer); keeps = tt; rests = λ _. tt }
