-- What rank tests answer.
--   IsRightRank g D k x     == the verdict x of the rank test of degree k is right for D
use Rattle.std.specs.Prelude.{◌≡◌, ℕ}
use Rattle.dg_chips.specs.Vector.{at}
use Rattle.dg_theory.specs.Firing.{Amounts}
use Rattle.dg_theory.specs.Multigraph.{Multigraph}
use Rattle.dg_theory.specs.Rank.{HasRankAtLeast, IsFirstLoss}
use Rattle.dg_verdict.specs.declared.rank_verdict.RankVerdict.{RankVerdict}
use Rattle.dg_verdict.specs.declared.rank_verdict.RankVerdict.TheVariants.{AtLeast, Below}

abbrev pub IsRightRank : Multigraph → Amounts → ℕ → RankVerdict → Type 0
IsRightRank g D k (AtLeast j) = (j ≡ k) × HasRankAtLeast g D k
IsRightRank g D k (Below j d) = (j ≡ k) × (d.size ≡ g.size) × IsFirstLoss g D k (at d)
