use Rattle.dg_burn.proofs.Common.{arith}
use Rattle.dg_burn.proofs.Lanes.{lane-few, lane_lack}
use Rattle.dg_burn.proofs.fire.initial_heat.Goals as goal

pub returns : goal.returns
returns c = λ v below.
    lane_lack c.args.held v c.fits-held.0 below (lane-few c.args.held v (omega arith) c.fits-held.1)
