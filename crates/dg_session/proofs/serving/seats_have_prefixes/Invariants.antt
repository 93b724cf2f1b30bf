-- Each seat so far has found a history of its table.
use Rattle.dg_session.proofs.Common.{take, All, HasPrefix}
use Rattle.dg_session.proofs.serving.seats_have_prefixes.Given as goal

abbrev pub invariant-loop-seat : goal.invariant-loop-seat
invariant-loop-seat g l = All (HasPrefix g.N.Name.table)
    (take l.seat-index l.fn.seats)
