use Rattle.dg_rank.proofs.Common.{◌≡◌, ℕ, ◌<◌, slice_index}
use Rattle.dg_rank.proofs.enumeration.Trial.is_before.Given as goal

abbrev pub invariant-loop-v : goal.invariant-loop-v
invariant-loop-v l = (u : ℕ) → u < l.v → slice_index l.self u ≡ slice_index l.other u
