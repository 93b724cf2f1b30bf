use Rattle.dg_reduce.proofs.Halves.{lane_other}
use Rattle.dg_reduce.proofs.effective_divisor.outside.Goals as goal

pub returns : goal.returns
returns c = λ v below. lane_other c.args.set v c.args.numbers below c.fits-numbers.0
