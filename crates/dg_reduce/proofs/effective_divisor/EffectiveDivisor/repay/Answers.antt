use Rattle.dg_reduce.proofs.Common.{arith, ints}
use Rattle.dg_reduce.proofs.DebtSteps.{repaying-start, repaying-done}
use Rattle.dg_reduce.proofs.effective_divisor.EffectiveDivisor.repay.Goals as goal

pub returns-then-get-ge0 : goal.returns-then-get-ge0
returns-then-get-ge0 c =
    repaying-done c.args.graph.now c.args.v c.args.self.now c.args.self.now
    (repaying-start c.args.graph.now c.args.v c.args.self.now c.requires.size c.requires.no_debt) (omega (arith, ints))
