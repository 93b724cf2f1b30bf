-- Divisors, scripts and firing (Corry and Perkinson, chapters 1 and 2).
-- A divisor gives each vertex an amount of dollars, and a negative one is a debt. A script tells
-- how often each vertex lends, and a negative number is so many borrowings. Both are whole numbers
-- for the vertices.
--   Amounts               == a whole number for each vertex: a divisor, or a script
--   degree n D            == the sum of the amounts of n vertices
--   IsEffective n D       == none of n vertices is in debt
--   IsEffectiveOff g q D  == none of the vertices but q is in debt; q may be
--   DivisorsAgreeOn n D E == D and E hold the same amount at each of n vertices
--   gain g s v            == what v gets by the script: along each edge to w, what w lends less what v lends
--   fired g D s           == the divisor after every vertex has lent as often as the script s says
--   FiresTo g s D E       == firing D by the script s gives E
--   AreEquivalent g D E   == D and E are linearly equivalent: some script fires D to E
--   only_at v x           == the script that is x at v and 0 elsewhere
--   indicator S           == the script by which each vertex of the set S lends once
--   multiple k s          == the script s taken k times
use Rattle.std.specs.Prelude.{◌≡◌, ◌≢◌, ℕ, ◌<◌, ◌==◌, Bool, if◌then◌else◌, ℤ, pos, ◌+ℤ◌, ◌-ℤ◌, ◌*ℤ◌, ◌≤ℤ◌}
use Rattle.dg_theory.specs.Sums.{sum_below}
use Rattle.dg_theory.specs.Multigraph.{Multigraph, edges_between}

abbrev pub Amounts : Type 0
Amounts = ℕ → ℤ

abbrev pub degree : ℕ → Amounts → ℤ
degree n D = sum_below n D

abbrev pub IsEffective : ℕ → Amounts → Type 0
IsEffective n D = (v : ℕ) → v < n → pos 0 ≤ℤ D v

abbrev pub IsEffectiveOff : Multigraph → ℕ → Amounts → Type 0
IsEffectiveOff g q D = (v : ℕ) → v < g.size → v ≢ q → pos 0 ≤ℤ D v

abbrev pub DivisorsAgreeOn : ℕ → Amounts → Amounts → Type 0
DivisorsAgreeOn n D E = (v : ℕ) → v < n → D v ≡ E v

abbrev pub gain : Multigraph → Amounts → Amounts
gain g s v = sum_below g.size (λ w. pos (edges_between g v w) *ℤ (s w -ℤ s v))

abbrev pub fired : Multigraph → Amounts → Amounts → Amounts
fired g D s v = D v +ℤ gain g s v

abbrev pub FiresTo : Multigraph → Amounts → Amounts → Amounts → Type 0
FiresTo g s D E = DivisorsAgreeOn g.size E (fired g D s)

abbrev pub AreEquivalent : Multigraph → Amounts → Amounts → Type 0
AreEquivalent g D E = (s : Amounts) × FiresTo g s D E

abbrev pub only_at : ℕ → ℤ → Amounts
only_at v x w = if w == v then x else pos 0

abbrev pub indicator : (ℕ → Bool) → Amounts
indicator S w = if S w then pos 1 else pos 0

abbrev pub multiple : ℤ → Amounts → Amounts
multiple k s w = k *ℤ s w
