-- The seat stands before the first space, and the text after it.
use Rattle.dg_lines.proofs.Common.{sym, ◌∙◌, ap, option_copied}
use Rattle.dg_lines.proofs.Stepping.{seated, no_seat_before}
use Rattle.dg_lines.proofs.line.split_seat.Goals as goal

pub returns-in-Some-rest-clause-seated : goal.returns-in-Some-rest-clause-seated
returns-in-Some-rest-clause-seated c =
    seated c.args.line.now c.in-Some.seat c.in-Some-rest.rest.now
    (c.in-Some.ensures.0, c.in-Some.ensures.1, sym c.cut.ensures.before ∙ c.in-Some.ensures.2)
    (sym c.cut.ensures.after ∙ ap option_copied c.in-Some-rest.is)

pub returns-in-None-clause-none : goal.returns-in-None-clause-none
returns-in-None-clause-none c _ =
    no_seat_before c.args.line.now (λ n first last e. c.in-None.ensures n first last (c.cut.ensures.before ∙ e))
