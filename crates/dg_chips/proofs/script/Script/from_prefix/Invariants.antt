use Rattle.dg_chips.proofs.Common.{if◌then◌else◌, nat_lt, slice_index_or, pos}
use Rattle.dg_chips.proofs.VectorLaws.{IsFilled}
use Rattle.dg_chips.proofs.script.Script.from_prefix.Given as goal

abbrev pub invariant-loop-v : goal.invariant-loop-v
invariant-loop-v l = IsFilled l.first l.v (λ w. if nat_lt w l.size then slice_index_or l.entries w (pos 0) else pos 0)
