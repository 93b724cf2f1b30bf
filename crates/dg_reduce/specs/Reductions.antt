-- Reductions: the reduced divisor that a divisor can be fired to, and the script that leads to it.
--   IsUniqueReduction g q D R s == every script that is 0 at q and leads from D to a reduced divisor
--                                  is s, and leads to R
--   IsReduction g q D bound x   == x has a reduced divisor and a script that leads to it from D; the
--                                  script is 0 at q and within the bound; and D has no other reduced
--                                  divisor, and no other script that is 0 at q and leads to it
use Rattle.std.specs.Prelude.{◌≡◌, ℕ, ◌<◌, ◌≤◌, pos}
use Rattle.std.specs.Int.RustNames.{unsigned_abs}
use Rattle.dg_chips.specs.Vector.{at}
use Rattle.dg_theory.specs.Firing.{Amounts, fired, FiresTo}
use Rattle.dg_theory.specs.Multigraph.{Multigraph}
use Rattle.dg_theory.specs.Reduced.{IsReduced}
use Rattle.dg_reduce.specs.declared.reduced.Reduced.{Reduced}

abbrev pub IsUniqueReduction : Multigraph → ℕ → Amounts → Amounts → Amounts → Type 0
IsUniqueReduction g q D R s = (t : Amounts) → t q ≡ pos 0 → IsReduced g q (fired g D t) →
    (v : ℕ) → v < g.size → (t v ≡ s v) × (fired g D t v ≡ R v)

pub record IsReduction (g : Multigraph) (q : ℕ) (D : Amounts) (bound : ℕ)
    (x : Reduced) : Type 0 where
  pub sizes : (x.divisor.size ≡ g.size) × (x.script.size ≡ g.size)
  pub reduced : IsReduced g q (at x.divisor)
  pub led : FiresTo g (at x.script) D (at x.divisor)
  pub at_q : at x.script q ≡ pos 0
  pub limit : (v : ℕ) → v < g.size → unsigned_abs (at x.script v) ≤ bound
  pub only : IsUniqueReduction g q D (at x.divisor) (at x.script)
