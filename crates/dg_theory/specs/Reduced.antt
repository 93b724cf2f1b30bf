-- Reduced divisors (Baker and Norine 2007, section 3.1; Corry and Perkinson, chapter 3).
--   edges_out g S v == how many edges lead from v to vertices outside the set S
--   IsReduced g q D == nobody off q is in debt, and each nonempty set of vertices without q has a
--                      vertex that would fall into debt if the set fired
use Rattle.std.specs.Prelude.{◌≡◌, ℕ, ◌<◌, Bool, true, false, if◌then◌else◌, pos, ◌<ℤ◌}
use Rattle.dg_theory.specs.Sums.{nat_sum_below}
use Rattle.dg_theory.specs.Multigraph.{Multigraph, edges_between}
use Rattle.dg_theory.specs.Firing.{Amounts, IsEffectiveOff}

abbrev pub edges_out : Multigraph → (ℕ → Bool) → ℕ → ℕ
edges_out g S v = nat_sum_below g.size (λ w. if S w then 0 else edges_between g v w)

pub record IsReduced (g : Multigraph) (q : ℕ) (D : Amounts) : Type 0 where
  pub no_debt : IsEffectiveOff g q D
  pub none_fires : (S : ℕ → Bool) → S q ≡ false → (u : ℕ) → u < g.size → S u ≡ true →
      (v : ℕ) × (v < g.size) × (S v ≡ true) × (D v <ℤ pos (edges_out g S v))
