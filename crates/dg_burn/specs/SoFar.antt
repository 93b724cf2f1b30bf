-- The state of burning before it ends.
--   count_unburnt n S            == how many of n vertices are not in the set S
--   IsPartialBurning g q D l n S == the n vertices of l are those that burn so far, in their order, and S is the
--                                   set of them
use Rattle.std.specs.Prelude.{if◌then◌else◌, ◌≡◌, ℕ, ◌+◌, Bool, List, length}
use Rattle.dg_theory.specs.Burning.{list_contains, IsBurningPrefix}
use Rattle.dg_theory.specs.Firing.{Amounts}
use Rattle.dg_theory.specs.Multigraph.{Multigraph}
use Rattle.dg_theory.specs.Sums.{nat_sum_below}

abbrev pub count_unburnt : ℕ → (ℕ → Bool) → ℕ
count_unburnt n S = nat_sum_below n (λ v. if S v then 0 else 1)

pub record IsPartialBurning (g : Multigraph) (q : ℕ) (D : Amounts) (l : List ℕ) (n : ℕ)
    (S : ℕ → Bool) : Type 0 where
  pub so_far : IsBurningPrefix g q D l
  pub same : (v : ℕ) → S v ≡ list_contains l v
  pub count : length l ≡ n
  pub left : n + count_unburnt g.size S ≡ g.size
