use Rattle.dg_session.proofs.Common.{arith, take_all}
use Rattle.dg_session.proofs.taking.no_looks.Goals as goal

pub returns : goal.returns
returns g c = rw (take_all c.loop.index c.args.seats.now (omega (arith, c.loop-test.false))) at c.loop.invariant
