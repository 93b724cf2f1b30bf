-- The laws of winning, for every multigraph and divisor (Baker and Norine 2007, section 1; Corry
-- and Perkinson, chapters 1 and 2). The functions of src/laws.rt promise them.
--   WinnableByScript   == a divisor is winnable exactly if some script makes it effective
--   WinnableByClass    == a divisor is winnable exactly if it is equivalent to an effective
--                         divisor
--   EquivalentWinnable == of equivalent divisors either both are winnable or neither is
use Rattle.std.specs.Prelude.{◌↔◌}
use Rattle.dg_theory.specs.Multigraph.{Multigraph}
use Rattle.dg_theory.specs.Firing.{Amounts, IsEffective, fired, AreEquivalent}
use Rattle.dg_theory.specs.Play.{IsWinnable}

abbrev pub WinnableByScript : Type 0
WinnableByScript = (g : Multigraph) (D : Amounts) →
    IsWinnable g D ↔ ((s : Amounts) × IsEffective g.size (fired g D s))

abbrev pub WinnableByClass : Type 0
WinnableByClass = (g : Multigraph) (D : Amounts) →
    IsWinnable g D ↔ ((E : Amounts) × AreEquivalent g D E × IsEffective g.size E)

abbrev pub EquivalentWinnable : Type 0
EquivalentWinnable =
    (g : Multigraph) (D E : Amounts) → AreEquivalent g D E → (IsWinnable g D ↔ IsWinnable g E)
