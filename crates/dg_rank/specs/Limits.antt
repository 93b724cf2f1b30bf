-- How far rank tests go: 1 to 16 vertices, a degree of at most MAX_DEGREE, and at most MAX_TRIALS
-- trials.
--   HasTrials n k c  == rank tests of degree k on n vertices are within the limits, and there are
--                       c trials
--   IsPastLimits n k == rank tests of degree k on n vertices are past one of the limits
use Rattle.std.specs.Prelude.{◌≡◌, ℕ, ◌<◌, ◌≤◌, ◌⊎◌}
use Rattle.dg_graph.specs.declared.graph.TheConstants.{MAX_VERTICES}
use Rattle.dg_rank.specs.Trials.{AreTrialsCounted, AnyTrial}
use Rattle.dg_rank.specs.declared.counting.TheConstants.{MAX_DEGREE, MAX_TRIALS}

pub record HasTrials (n k c : ℕ) : Type 0 where
  pub some : 0 < n
  pub few : n ≤ MAX_VERTICES
  pub small : k ≤ MAX_DEGREE
  pub counted : AreTrialsCounted n k AnyTrial c
  pub limit : c ≤ MAX_TRIALS

abbrev pub IsPastLimits : ℕ → ℕ → Type 0
IsPastLimits n k = (n ≡ 0) ⊎ (MAX_VERTICES < n) ⊎ (MAX_DEGREE < k) ⊎
    ((c : ℕ) × (MAX_TRIALS < c) × AreTrialsCounted n k AnyTrial c)
