-- The laws of rank (Baker and Norine 2007, section 1; Corry and Perkinson, chapter 5). The
-- functions of src/laws.rt promise them.
--   EquivalentRank       == of equivalent divisors either both have a rank of at least k or neither has
--   EquivalentLoss       == the first loss of a divisor is the first loss of each that is equivalent to
--                           it
--   RankIsMonotone       == a divisor whose rank is at least k + 1 has a rank of at least k
--   RankZeroIffWinnable  == the rank is at least 0 exactly if the divisor is winnable
--   RankFromDegree       == a divisor whose degree is at least the genus and k more has a rank of at
--                           least k
--   RankAtMostDegree     == a divisor whose degree is less than k has no rank of at least k
--   FirstLossIsUnique    == two first losses of degree k of one divisor agree on the vertices
--   LossBoundsRank       == if there is a first loss of degree k, the rank is not at least k
use Rattle.std.specs.Prelude.{ℕ, ◌+◌, ◌<◌, ◌↔◌, pos, ◌+ℤ◌, ◌≤ℤ◌, ◌<ℤ◌}
use Rattle.dg_theory.specs.Multigraph.{Multigraph, IsMultigraph, genus}
use Rattle.dg_theory.specs.Firing.{Amounts, degree, DivisorsAgreeOn, AreEquivalent}
use Rattle.dg_theory.specs.Play.{IsWinnable}
use Rattle.dg_theory.specs.Rank.{HasRankAtLeast, IsFirstLoss}

abbrev pub EquivalentRank : Type 0
EquivalentRank = (g : Multigraph) (D E : Amounts) (k : ℕ) → AreEquivalent g D E →
    (HasRankAtLeast g D k ↔ HasRankAtLeast g E k)

abbrev pub EquivalentLoss : Type 0
EquivalentLoss = (g : Multigraph) (D E : Amounts) (k : ℕ) (F : Amounts) → AreEquivalent g D E →
    (IsFirstLoss g D k F ↔ IsFirstLoss g E k F)

abbrev pub RankIsMonotone : Type 0
RankIsMonotone = (g : Multigraph) (D : Amounts) (k : ℕ) → HasRankAtLeast g D (k + 1) →
    HasRankAtLeast g D k

abbrev pub RankZeroIffWinnable : Type 0
RankZeroIffWinnable = (g : Multigraph) (D : Amounts) → HasRankAtLeast g D 0 ↔ IsWinnable g D

abbrev pub RankFromDegree : Type 0
RankFromDegree = (g : Multigraph) (D : Amounts) (k : ℕ) → IsMultigraph g → 0 < g.size →
    (genus g +ℤ pos k) ≤ℤ degree g.size D → HasRankAtLeast g D k

abbrev pub RankAtMostDegree : Type 0
RankAtMostDegree = (g : Multigraph) (D : Amounts) (k : ℕ) → IsMultigraph g → 0 < g.size →
    degree g.size D <ℤ pos k → ¬ HasRankAtLeast g D k

abbrev pub FirstLossIsUnique : Type 0
FirstLossIsUnique = (g : Multigraph) (D : Amounts) (k : ℕ) (E F : Amounts) → IsFirstLoss g D k E →
    IsFirstLoss g D k F → DivisorsAgreeOn g.size E F

abbrev pub LossBoundsRank : Type 0
LossBoundsRank = (g : Multigraph) (D : Amounts) (k : ℕ) (E : Amounts) → IsFirstLoss g D k E →
    ¬ HasRankAtLeast g D k
