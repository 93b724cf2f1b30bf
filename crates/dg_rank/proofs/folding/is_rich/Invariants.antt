use Rattle.dg_rank.proofs.Common.{ℕ, ◌<◌, ◌≤◌}
use Rattle.dg_rank.specs.Prices.{price}
use Rattle.dg_rank.proofs.folding.is_rich.Given as goal

abbrev pub invariant-loop-v : goal.invariant-loop-v
invariant-loop-v l = record { cheap : (u t : ℕ) → u < l.v → t ≤ l.prices.most → price l.prices u t ≤ t }
