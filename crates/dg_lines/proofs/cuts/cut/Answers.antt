-- The two parts, by the place of the first byte that cuts.
use Rattle.dg_lines.proofs.Common.{◌+◌, Some, sym, ap, ◌∙◌, take_rest}
use Rattle.dg_lines.proofs.Cutting.{cut_at, cut_nowhere}
use Rattle.dg_lines.proofs.cuts.cut.Goals as goal

pub returns-in-Some-clause-before : goal.returns-in-Some-clause-before
returns-in-Some-clause-before c = sym (cut_at _ _ _ (sym c.in-Some.ensures)).0

pub returns-in-Some-clause-after : goal.returns-in-Some-clause-after
returns-in-Some-clause-after c =
    ap Some (take_rest c.args.bytes.now (c.in-Some.place + 1))
    ∙ sym (cut_at c.args.at c.args.bytes.now c.in-Some.place (sym c.in-Some.ensures)).1

pub returns-in-None-clause-before : goal.returns-in-None-clause-before
returns-in-None-clause-before c = sym (cut_nowhere _ _ (sym c.in-None.ensures)).0

pub returns-in-None-clause-after : goal.returns-in-None-clause-after
returns-in-None-clause-after c = sym (cut_nowhere _ _ (sym c.in-None.ensures)).1
