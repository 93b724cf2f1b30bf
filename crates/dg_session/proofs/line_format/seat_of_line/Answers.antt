use Rattle.dg_session.proofs.Common.{arith}
use Rattle.dg_session.proofs.Seated.{seat_past}
use Rattle.dg_session.proofs.line_format.seat_of_line.Goals as goal

pub returns-else-seat-count-clause-none : goal.returns-else-seat-count-clause-none
returns-else-seat-count-clause-none c same =
    seat_past c.args.count c.in-Some.seat c.in-Some.text.now c.args.line.now c.in-Some.ensures.seated
    (λ low. omega (arith, c.if-seat-count.false, c.from-seat.ensures, low))
