-- What shows that amounts are reduced: the order in which all vertices burn.
--   IsFullOrder g q D l       == l are the vertices in the order in which they burn from q, the least first,
--                             all of them, and then zeros up to 16 places
--   IsCertified g q D bound x == x has a reduction of D, and the order in which all vertices burn in the
--                                reduced divisor
use Rattle.std.specs.Prelude.{◌≡◌, ℕ, ◌<◌, ◌≤◌, List, take}
use Rattle.std.specs.List.{slice_index_or}
use Rattle.dg_chips.specs.Vector.{at}
use Rattle.dg_reduce.specs.Reductions.{IsReduction}
use Rattle.dg_theory.specs.Burning.{IsLeastBurningOrder}
use Rattle.dg_theory.specs.Firing.{Amounts}
use Rattle.dg_theory.specs.Multigraph.{Multigraph}
use Rattle.dg_reduce.specs.declared.reducing.CertifiedReduction.{CertifiedReduction}

pub record IsFullOrder (g : Multigraph) (q : ℕ) (D : Amounts) (l : List ℕ) : Type 0 where
  pub burns : IsLeastBurningOrder g q D (take g.size l)
  pub rest : (i : ℕ) → g.size ≤ i → i < 16 → slice_index_or l i 0 ≡ 0

pub record IsCertified (g : Multigraph) (q : ℕ) (D : Amounts) (bound : ℕ)
    (x : CertifiedReduction) : Type 0 where
  pub reduction : IsReduction g q D bound x.reduced
  pub order : IsFullOrder g q (at x.reduced.divisor) x.order
