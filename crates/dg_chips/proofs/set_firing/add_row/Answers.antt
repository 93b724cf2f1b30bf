use Rattle.dg_chips.proofs.Common.{arith}
use Rattle.dg_chips.proofs.Lanes.{lane_sum}
use Rattle.dg_chips.proofs.set_firing.add_row.Goals as goal

pub returns : goal.returns
returns c = λ v below. lane_sum c.args.sums c.args.row v (omega arith) (omega arith) (c.requires v below)
