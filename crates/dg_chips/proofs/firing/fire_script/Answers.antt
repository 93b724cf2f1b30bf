use Rattle.dg_chips.proofs.Common.{arith, at}
use Rattle.dg_chips.proofs.Applying.{AreFired, moved, out_of_range}
use Rattle.dg_chips.proofs.firing.fire_script.Goals as goal
use Rattle.dg_chips.proofs.firing.fire_script.Goals.{After-size-3}

-- the numbers at hand come from firing the script
made : (c : After-size-3) → AreFired c.args.graph.now (at c.args.divisor.now) c.args.script.now
    c.size-3.result c.fired_amounts-amounts.result
made c = record {
  size = c.size-3.ensures.size;
  few = c.size-3.ensures.graph.few;
  places = c.fired_amounts-amounts.ensures.places;
  fits = omega arith;
  amounts = c.fired_amounts-amounts.ensures.amounts;
}

pub returns-in-Ok : goal.returns-in-Ok
returns-in-Ok c = moved _ _ _ _ _ _
    (made (goal.at.returns-in-Ok c).After-size-3) c.in-Ok.ensures.0 c.in-Ok.ensures.1 c.in-Ok.ensures.2

pub returns-in-Err : goal.returns-in-Err
returns-in-Err c =
    let fired = made (goal.at.returns-in-Err c).After-size-3 in
    (fired.fits, out_of_range _ _ _ _ _ _ fired c.in-Err.ensures)
