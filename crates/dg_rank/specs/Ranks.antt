-- How far rank tests go, what they tell of ranks, and why one is refused.
--   IsTestable n k        == a rank test of degree k on n vertices is within the limits
--   IsTestedRank g D r    == r is the rank of D, and the test of the next degree is within the limits
--   AreTestedRanks g D r  == so are the two of r, of D and of its residual
--   NeedsTooMany g D      == D needs too many rank tests: its rank is told by none within the limits,
--                            since D passes all that come before one past them
--   EitherNeedsMore g D   == D or its residual needs too many rank tests
--   RefusesBothRanks g D  == the residual of D is in range, and D or the residual needs too many rank
--                            tests
--   AreBothRanks g D r    == r is the ranks of D and of its residual
--   FailsFirstAt g D k    == k is the least degree of the rank tests that D fails
--   IsLesserSide g D E m  == the rank of E is m less than that of D, as the tests tell it: D passes those below m,
--                            and that of k + m exactly where E passes that of k; and E fails from the genus on
--   IsWorkerCount w       == a rank test may have w workers
--   IsRankFault n k w e   == a rank test with w workers is refused for this cause, and for no earlier
--                            one, and never for want of memory; whether a thread really did not start,
--                            no definition can say
use Rattle.std.specs.Prelude.{◌≡◌, ◌↔◌, ℕ, ◌+◌, ◌<◌, ◌≤◌, ◌⊎◌, ℤ, pos, ◌+ℤ◌, ◌≤ℤ◌}
use Rattle.dg_chips.specs.Vector.{IsInRange}
use Rattle.dg_theory.specs.Firing.{Amounts}
use Rattle.dg_theory.specs.Multigraph.{Multigraph, genus}
use Rattle.dg_theory.specs.Rank.{minus, canonical, HasRankAtLeast, IsRank}
use Rattle.dg_rank.specs.Limits.{HasTrials, IsPastLimits}
use Rattle.dg_rank.specs.declared.rank_fault.RankFault.{RankFault}
use Rattle.dg_rank.specs.declared.rank_fault.RankFault.TheVariants.{TooMany, Workers, OutOfMemory, Spawn}
use Rattle.dg_rank.specs.declared.workers.TheConstants.{MAX_WORKERS}

abbrev pub IsTestable : ℕ → ℕ → Type 0
IsTestable n k = (c : ℕ) × HasTrials n k c

pub record IsTestedRank (g : Multigraph) (D : Amounts) (r : ℤ) : Type 0 where
  pub is_rank : IsRank g D r
  pub next : ℕ
  pub follows : pos next ≡ r +ℤ pos 1
  pub within : IsTestable g.size next

abbrev pub AreTestedRanks : Multigraph → Amounts → ℤ × ℤ → Type 0
AreTestedRanks g D r =
    IsTestedRank g D r.0 × IsTestedRank g (minus (canonical g) D) r.1

pub record NeedsTooMany (g : Multigraph) (D : Amounts) : Type 0 where
  pub degree : ℕ
  pub past : IsPastLimits g.size degree
  pub passed : (k : ℕ) → k < degree → HasRankAtLeast g D k

abbrev pub EitherNeedsMore : Multigraph → Amounts → Type 0
EitherNeedsMore g D = NeedsTooMany g D ⊎ NeedsTooMany g (minus (canonical g) D)

pub record RefusesBothRanks (g : Multigraph) (D : Amounts) : Type 0 where
  pub in_range : IsInRange g.size (minus (canonical g) D)
  pub either : EitherNeedsMore g D

abbrev pub AreBothRanks : Multigraph → Amounts → ℤ × ℤ → Type 0
AreBothRanks g D r = IsRank g D r.0 × IsRank g (minus (canonical g) D) r.1

pub record FailsFirstAt (g : Multigraph) (D : Amounts) (k : ℕ) : Type 0 where
  pub passed : (j : ℕ) → j < k → HasRankAtLeast g D j
  pub fails : ¬ HasRankAtLeast g D k

pub record IsLesserSide (g : Multigraph) (D E : Amounts) (m : ℕ) : Type 0 where
  pub below : (k : ℕ) → k < m → HasRankAtLeast g D k
  pub passes : (k : ℕ) → HasRankAtLeast g E k ↔ HasRankAtLeast g D (k + m)
  pub fails : (k : ℕ) → genus g ≤ℤ pos k → ¬ HasRankAtLeast g E k

abbrev pub IsWorkerCount : ℕ → Type 0
IsWorkerCount w = (1 ≤ w) × (w ≤ MAX_WORKERS)

abbrev pub IsRankFault : ℕ → ℕ → ℕ → RankFault → Type 0
IsRankFault n k w TooMany = IsPastLimits n k
IsRankFault n k w Workers = IsTestable n k × (¬ IsWorkerCount w)
IsRankFault n k w OutOfMemory = ⊥
IsRankFault n k w Spawn = IsTestable n k × IsWorkerCount w
