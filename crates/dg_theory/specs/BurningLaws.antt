-- The laws of burning, for a divisor without debt off q.
--   unburnt_by g l     == the vertices that are not in the list l
--   UnburntIsGreatest  == what burning leaves is the greatest set that fires freely
--   GreatestIsUnique   == there is only one greatest set that fires freely
--   ReducedIffBurnt    == burning leaves nothing exactly if the divisor is reduced
--   OrderShowsReduced  == a divisor from which all vertices burn, in any order, is reduced
use Rattle.std.specs.Prelude.{◌≡◌, ℕ, ◌<◌, ◌↔◌, Bool, true, not, ◌&&◌, nat_lt, List}
use Rattle.dg_theory.specs.Multigraph.{Multigraph, IsMultigraph}
use Rattle.dg_theory.specs.Firing.{Amounts, IsEffectiveOff}
use Rattle.dg_theory.specs.Reduced.{IsReduced}
use Rattle.dg_theory.specs.Burning.{list_contains, IsLeastBurningOrder, IsBurningOrder, IsGreatestLegal}

abbrev pub unburnt_by : Multigraph → List ℕ → ℕ → Bool
unburnt_by g l v = nat_lt v g.size && not (list_contains l v)

abbrev pub UnburntIsGreatest : Type 0
UnburntIsGreatest = (g : Multigraph) (q : ℕ) (D : Amounts) (l : List ℕ) → IsMultigraph g → q < g.size →
    IsEffectiveOff g q D → IsLeastBurningOrder g q D l → IsGreatestLegal g q D (unburnt_by g l)

abbrev pub GreatestIsUnique : Type 0
GreatestIsUnique = (g : Multigraph) (q : ℕ) (D : Amounts) (S T : ℕ → Bool) → IsGreatestLegal g q D S →
    IsGreatestLegal g q D T → (v : ℕ) → S v ≡ T v

abbrev pub ReducedIffBurnt : Type 0
ReducedIffBurnt = (g : Multigraph) (q : ℕ) (D : Amounts) (l : List ℕ) → IsMultigraph g → q < g.size →
    IsEffectiveOff g q D →
    IsLeastBurningOrder g q D l → (((v : ℕ) → v < g.size → list_contains l v ≡ true) ↔ IsReduced g q D)

abbrev pub OrderShowsReduced : Type 0
OrderShowsReduced = (g : Multigraph) (q : ℕ) (D : Amounts) (l : List ℕ) → IsMultigraph g → q < g.size →
    IsEffectiveOff g q D → IsBurningOrder g q D l → IsReduced g q D
