use Rattle.dg_reduce.proofs.Common.{MatchBool, at}
use Rattle.dg_reduce.specs.Rests.{StaysAboveFloor}
use Rattle.dg_reduce.proofs.effective_divisor.EffectiveDivisor.can_fire.Given as goal

abbrev pub invariant-loop-v : goal.invariant-loop-v
invariant-loop-v l =
    MatchBool l.stays (StaysAboveFloor l.v l.floor (at l.self) l.rest) (¬ StaysAboveFloor l.v l.floor (at l.self) l.rest)
