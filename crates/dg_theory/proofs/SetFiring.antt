-- Firing a set of vertices once.
--   gain-inside     a vertex of the set loses a dollar along each edge that leaves the set
--   gain-outside    a vertex outside the set gets a dollar along each edge that comes from the set
--   fired-inside    if no debt is at a vertex of the set after the firing, it held a dollar for each edge that leaves
--   inside-fired    and the other way round
--   outside-fired   a vertex outside the set that was not in debt is not in debt after the firing
use Rattle.dg_theory.proofs.Common.{if◌then◌else◌, ◌≡◌, ℕ, Bool, true, false, ap, mul-one, arith, ints, pos, ◌+ℤ◌, ◌-ℤ◌, ◌*ℤ◌, *ℤ-zero, *ℤ-one, *ℤ-negsuc, ◌≤ℤ◌, Multigraph, edges_between, Amounts, gain, fired, indicator, edges_out, edges_into}
use Rattle.dg_theory.proofs.SumTotals.{sum_below-total, sum_below-minus}

-- along e edges, from a vertex that lends once to one that lends once or not
lent-once : (e : ℕ) (b : Bool) → pos e *ℤ ((if b then pos 1 else pos 0) -ℤ pos 1) +ℤ pos (if b then 0 else e) ≡ pos 0
lent-once e true = omega (arith, ints, *ℤ-zero (pos e))
lent-once e false = omega (arith, ints, *ℤ-negsuc (pos e) 0, *ℤ-one (pos e))

-- along e edges, to a vertex that does not lend
got-once : (e : ℕ) (b : Bool) → pos e *ℤ ((if b then pos 1 else pos 0) -ℤ pos 0) ≡ pos (if b then e else 0)
got-once e true = ap pos (mul-one e)
got-once e false = *ℤ-zero (pos e)

pub gain-inside : (g : Multigraph) (S : ℕ → Bool) (v : ℕ) → S v ≡ true →
    gain g (indicator S) v +ℤ pos (edges_out g S v) ≡ pos 0
gain-inside g S v inside = rw inside (sum_below-minus g.size _ _ (λ w below. lent-once (edges_between g v w) (S w)))

pub gain-outside : (g : Multigraph) (S : ℕ → Bool) (v : ℕ) → S v ≡ false →
    gain g (indicator S) v ≡ pos (edges_into g S v)
gain-outside g S v outside = rw outside (sum_below-total g.size _ _ (λ w below. got-once (edges_between g v w) (S w)))

pub fired-inside : (g : Multigraph) (D : Amounts) (S : ℕ → Bool) (v : ℕ) → S v ≡ true →
    pos 0 ≤ℤ fired g D (indicator S) v → pos (edges_out g S v) ≤ℤ D v
fired-inside g D S v inside after = omega (arith, ints, gain-inside g S v inside)

pub inside-fired : (g : Multigraph) (D : Amounts) (S : ℕ → Bool) (v : ℕ) → S v ≡ true →
    pos (edges_out g S v) ≤ℤ D v → pos 0 ≤ℤ fired g D (indicator S) v
inside-fired g D S v inside enough = omega (arith, ints, gain-inside g S v inside)

pub outside-fired : (g : Multigraph) (D : Amounts) (S : ℕ → Bool) (v : ℕ) → S v ≡ false →
    pos 0 ≤ℤ D v → pos 0 ≤ℤ fired g D (indicator S) v
outside-fired g D S v outside before = omega (arith, ints, gain-outside g S v outside)
