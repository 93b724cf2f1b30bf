use Rattle.dg_session.proofs.Common.{subst, arith, All, All-more, take_all, HasPrefix}
use Rattle.dg_session.proofs.serving.seats_have_prefixes.Goals as goal

pub loop-seat-preserved : goal.loop-seat-preserved
loop-seat-preserved g c =
    All-more (HasPrefix g.N.Name.table) c.args.seats.now c.loop-seat.seat-index c.seat-item.result c.loop-seat-test.true
    c.loop-seat.invariant (subst (HasPrefix g.N.Name.table) c.seat-item.is c.prefix-prefix.ensures.found)

pub returns : goal.returns
returns g c =
    subst (All (HasPrefix g.N.Name.table))
    (take_all c.loop-seat.seat-index c.args.seats.now (omega (arith, c.loop-seat-test.false))) c.loop-seat.invariant
