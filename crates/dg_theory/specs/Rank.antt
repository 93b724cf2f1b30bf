-- The rank of a divisor (Baker and Norine 2007, section 1; Corry and Perkinson, chapter 5): how
-- many dollars can be taken from it, wherever they are taken, so that what is left is winnable. A
-- rank of at least k is defined here for k from 0 on; a divisor that is not winnable has the rank
-- -1, and no rank test passes.
--   minus D E            == the divisor D less the divisor E: at each vertex the difference of the amounts
--   HasRankAtLeast g D k == D less E is winnable for every effective divisor E of degree k
--   IsRank g D r         == r is the rank of D: the greatest k of which it has a rank of at least k, and -1
--                           if there is none
--   canonical g          == the canonical divisor: at each vertex two dollars less than it has edges
--   IsLexBefore n E F    == E holds less than F at the first of n vertices at which they differ
--   IsFirstLoss g D k E  == of the effective divisors of degree k whose loss leaves D unwinnable, E is the
--                           first in that order
use Rattle.std.specs.Prelude.{◌≡◌, ℕ, ◌+◌, ◌<◌, ℤ, pos, negsuc, ◌-ℤ◌, ◌<ℤ◌}
use Rattle.dg_theory.specs.Multigraph.{Multigraph, valence}
use Rattle.dg_theory.specs.Firing.{Amounts, degree, IsEffective}
use Rattle.dg_theory.specs.Play.{IsWinnable}

abbrev pub minus : Amounts → Amounts → Amounts
minus D E v = D v -ℤ E v

abbrev pub HasRankAtLeast : Multigraph → Amounts → ℕ → Type 0
HasRankAtLeast g D k =
    (E : Amounts) → IsEffective g.size E → degree g.size E ≡ pos k → IsWinnable g (minus D E)

-- negsuc n is -(n + 1)
abbrev pub IsRank : Multigraph → Amounts → ℤ → Type 0
IsRank g D (pos k) = HasRankAtLeast g D k × (¬ HasRankAtLeast g D (k + 1))
IsRank g D (negsuc n) = (n ≡ 0) × (¬ HasRankAtLeast g D 0)

abbrev pub canonical : Multigraph → Amounts
canonical g v = pos (valence g v) -ℤ pos 2

pub record IsLexBefore (n : ℕ) (E F : Amounts) : Type 0 where
  pub place : ℕ
  pub inside : place < n
  pub same : (u : ℕ) → u < place → E u ≡ F u
  pub smaller : E place <ℤ F place

pub record IsFirstLoss (g : Multigraph) (D : Amounts) (k : ℕ) (E : Amounts) : Type 0 where
  pub effective : IsEffective g.size E
  pub of_degree : degree g.size E ≡ pos k
  pub loses : ¬ IsWinnable g (minus D E)
  pub first : (F : Amounts) → IsEffective g.size F → degree g.size F ≡ pos k → IsLexBefore g.size F E →
      IsWinnable g (minus D F)
