-- Dhar's burning algorithm (Dhar 1990; Corry and Perkinson, chapter 3; Baker and Norine 2007,
-- section 5.1). From a divisor without debt off q: q burns first; then, again and again, of the
-- vertices that more edges join to burnt ones than they hold dollars, the least burns.
--   list_contains l v           == whether v is in the list l
--   edges_into g B v            == how many edges lead from v to vertices of the set B
--   MayBurn g D B v             == v is not in B, and more edges join it to B than it holds dollars
--   BurnsNext g D B v           == v is the least that may burn
--   IsBurningPrefix g q D l     == l is q, and then vertices each of which burns next after those before
--                                  it
--   IsLeastBurningOrder g q D l == l is the order in which vertices burn, to the end
--   IsBurningOrder g q D l      == l names each vertex once, q first, and each later one may burn when
--                                  those before it have, whether or not it is the least
--   IsLegalSetFiring g q D S    == S is a set of vertices without q, and nobody off q is in debt once S
--                                  has fired
--   IsGreatestLegal g q D S     == S fires freely, and holds every vertex of every set that fires freely
use Rattle.std.specs.Prelude.{◌≡◌, ℕ, suc, ◌<◌, ◌==◌, Bool, true, false, if◌then◌else◌, List, slice_get, take, Some, pos, ◌<ℤ◌}
use Rattle.std.specs.List.{list_any}
use Rattle.dg_theory.specs.Sums.{nat_sum_below}
use Rattle.dg_theory.specs.Multigraph.{Multigraph, edges_between}
use Rattle.dg_theory.specs.Firing.{Amounts, IsEffectiveOff, fired, indicator}

abbrev pub list_contains : List ℕ → ℕ → Bool
list_contains l v = list_any (λ w. w == v) l

abbrev pub edges_into : Multigraph → (ℕ → Bool) → ℕ → ℕ
edges_into g B v = nat_sum_below g.size (λ w. if B w then edges_between g v w else 0)

pub record MayBurn (g : Multigraph) (D : Amounts) (B : ℕ → Bool) (v : ℕ) : Type 0 where
  pub vertex : v < g.size
  pub unburnt : B v ≡ false
  pub reached : D v <ℤ pos (edges_into g B v)

pub record BurnsNext (g : Multigraph) (D : Amounts) (B : ℕ → Bool) (v : ℕ) : Type 0 where
  pub may : MayBurn g D B v
  pub least : (u : ℕ) → u < v → ¬ MayBurn g D B u

pub record IsBurningPrefix (g : Multigraph) (q : ℕ) (D : Amounts) (l : List ℕ) : Type 0 where
  pub first : slice_get l 0 ≡ Some q
  pub next : (i v : ℕ) → slice_get l (suc i) ≡ Some v → BurnsNext g D (list_contains (take (suc i) l)) v

pub record IsLeastBurningOrder (g : Multigraph) (q : ℕ) (D : Amounts) (l : List ℕ) : Type 0 where
  pub begun : IsBurningPrefix g q D l
  pub last : (v : ℕ) → ¬ MayBurn g D (list_contains l) v

pub record IsBurningOrder (g : Multigraph) (q : ℕ) (D : Amounts) (l : List ℕ) : Type 0 where
  pub first : slice_get l 0 ≡ Some q
  pub next : (i v : ℕ) → slice_get l (suc i) ≡ Some v → MayBurn g D (list_contains (take (suc i) l)) v
  pub all : (v : ℕ) → v < g.size → list_contains l v ≡ true

pub record IsLegalSetFiring (g : Multigraph) (q : ℕ) (D : Amounts) (S : ℕ → Bool) : Type 0 where
  pub vertices : (v : ℕ) → S v ≡ true → v < g.size
  pub without : S q ≡ false
  pub no_debt : IsEffectiveOff g q (fired g D (indicator S))

pub record IsGreatestLegal (g : Multigraph) (q : ℕ) (D : Amounts) (S : ℕ → Bool) : Type 0 where
  pub free : IsLegalSetFiring g q D S
  pub greatest : (T : ℕ → Bool) → IsLegalSetFiring g q D T → (v : ℕ) → T v ≡ true → S v ≡ true
