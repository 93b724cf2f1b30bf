-- A bound on the scripts that reduce.
--   gain-opposite   by the opposite script everybody gets the opposite
--   gentle_between  if off q nobody gets more than K nor less than - K, the entries are within (n - 1)² K of that at q
--   script_bound    the entries of a script that takes a divisor with amounts from - M to M to one with amounts from
--                   0 to 62 off q are within 225 (M + 62) of that at q, for at most 16 vertices
use Rattle.dg_theory.proofs.Common.{◌≡◌, ◌≢◌, ℕ, zero, suc, ◌+◌, ◌*◌, ◌<◌, ◌≤◌, arith, refl, ◌∙◌, ints, mul-le, pos, ◌+ℤ◌, ◌-ℤ◌, neg_ℤ, *ℤ-zero, ◌≤ℤ◌, unsigned_abs, Multigraph, IsMultigraph, Amounts, gain, fired}
use Rattle.dg_theory.proofs.Absolute.{within_abs, abs_within}
use Rattle.dg_theory.proofs.SumLaws.{sum_below-zero}
use Rattle.dg_theory.proofs.Equivalence.{opposite}
use Rattle.dg_theory.proofs.FiringLaws.{gain-add}
use Rattle.dg_theory.proofs.Climbs.{not_far_above}

pub gain-opposite : (g : Multigraph) (s : Amounts) (v : ℕ) → gain g s v +ℤ gain g (opposite s) v ≡ pos 0
gain-opposite g s v =
    gain-add g s (opposite s) v
    ∙ sum_below-zero g.size _ (λ w below.
    let none : (s w +ℤ neg_ℤ (s w)) -ℤ (s v +ℤ neg_ℤ (s v)) ≡ pos 0 = omega (arith, ints) in rw (none, *ℤ-zero) refl)

pub gentle_between : (g : Multigraph) (q m K : ℕ) (s : Amounts) → IsMultigraph g → q < g.size → g.size ≡ suc m →
    ((v : ℕ) → v < g.size → v ≢ q → (pos 0 ≤ℤ (gain g s v +ℤ pos K)) × (gain g s v ≤ℤ pos K)) →
    (v : ℕ) → v < g.size → unsigned_abs (s v -ℤ s q) ≤ m * (m * K)
gentle_between g q m K s graph vertex size_is gains v inside =
    let above : s v ≤ℤ (s q +ℤ pos (m * (m * K))) = not_far_above g q m K s record {
      graph = graph;
      size_is = size_is;
      vertex = vertex;
      gains = λ w below off_q. (gains w below off_q).0;
    } v inside in
    let under : opposite s v ≤ℤ (opposite s q +ℤ pos (m * (m * K))) = not_far_above g q m K (opposite s) record {
      graph = graph;
      size_is = size_is;
      vertex = vertex;
      gains = λ w below off_q.
          let high : gain g s w ≤ℤ pos K = (gains w below off_q).1 in
          let both : gain g s w +ℤ gain g (opposite s) w ≡ pos 0 = gain-opposite g s w in
          omega (arith, ints);
    } v inside in
    abs_within (s v -ℤ s q) (m * (m * K)) (omega (arith, ints)) (omega (arith, ints))

squares : (m K : ℕ) → m ≤ 15 → m * (m * K) ≤ 225 * K
squares m K few =
    let once : m * K ≤ 15 * K = mul-le m K 15 K few (omega arith) in
    let twice : m * (m * K) ≤ 15 * (15 * K) = mul-le m (m * K) 15 (15 * K) few once in
    omega arith

bound_of_size : (g : Multigraph) (n q : ℕ) (D s : Amounts) (M : ℕ) → g.size ≡ n → IsMultigraph g → q < g.size → n ≤ 16 →
    ((v : ℕ) → v < g.size → unsigned_abs (D v) ≤ M) →
    ((v : ℕ) → v < g.size → v ≢ q → (pos 0 ≤ℤ fired g D s v) × (fired g D s v ≤ℤ pos 62)) →
    (v : ℕ) → v < g.size → unsigned_abs (s v -ℤ s q) ≤ 225 * (M + 62)
bound_of_size g zero q D s M size_is graph vertex few small after v inside = absurd (omega arith)
bound_of_size g (suc m) q D s M size_is graph vertex few small after v inside =
    let near : unsigned_abs (s v -ℤ s q) ≤ m * (m * (M + 62)) =
    gentle_between g q m (M + 62) s graph vertex size_is (λ w below off_q.
    let (low, high) = within_abs (D w) M (small w below) in
    let (rich, modest) = after w below off_q in
    (omega (arith, ints), omega (arith, ints))) v inside in
    let product : m * (m * (M + 62)) ≤ 225 * (M + 62) = squares m (M + 62) (omega arith) in
    omega arith

pub script_bound : (g : Multigraph) (q : ℕ) (D s : Amounts) (M : ℕ) → IsMultigraph g → q < g.size → g.size ≤ 16 →
    ((v : ℕ) → v < g.size → unsigned_abs (D v) ≤ M) →
    ((v : ℕ) → v < g.size → v ≢ q → (pos 0 ≤ℤ fired g D s v) × (fired g D s v ≤ℤ pos 62)) →
    (v : ℕ) → v < g.size → unsigned_abs (s v -ℤ s q) ≤ 225 * (M + 62)
script_bound g q D s M graph vertex few small after v inside =
    bound_of_size g g.size q D s M refl graph vertex few small after v inside
