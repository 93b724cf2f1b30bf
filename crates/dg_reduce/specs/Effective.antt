-- The effective divisors that a divisor can be fired to: its complete linear system (Baker and
-- Norine 2007, section 1; Corry and Perkinson, chapter 2).
--   IsInLinearSystem g D x == x is in the complete linear system of D: nobody is in debt, and x is
--                          equivalent to D
use Rattle.std.specs.Prelude.{◌≡◌}
use Rattle.dg_chips.specs.Vector.{Vector, at}
use Rattle.dg_theory.specs.Firing.{Amounts, IsEffective, AreEquivalent}
use Rattle.dg_theory.specs.Multigraph.{Multigraph}

pub record IsInLinearSystem (g : Multigraph) (D : Amounts) (x : Vector) : Type 0 where
  pub size : x.size ≡ g.size
  pub effective : IsEffective g.size (at x)
  pub led : AreEquivalent g D (at x)
