use Rattle.dg_chips.proofs.Common.{ℕ, ◌<◌, ◌≤◌}
use Rattle.std.proofs.Common.{slice_index}
use Rattle.dg_chips.proofs.light.max_valence.Given as goal

abbrev pub invariant-loop-v : goal.invariant-loop-v
invariant-loop-v l = (u : ℕ) → u < l.v → slice_index l.valences u ≤ l.most
