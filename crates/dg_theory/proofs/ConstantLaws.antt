-- Scripts that do the same.
--   level_next       a script that changes nothing, where it is largest: the neighbours lend as often
--   changes_nothing  a script that changes nothing on the vertices of a multigraph is constant on them
--   same_by_constant two scripts give the same amounts exactly where they differ by a constant
use Rattle.dg_theory.proofs.Common.{◌≡◌, ℕ, zero, suc, ◌<◌, arith, refl, ◌∙◌, ints, ℤ, pos, ◌+ℤ◌, ◌-ℤ◌, ◌*ℤ◌, ◌≤ℤ◌, Multigraph, IsMultigraph, edges_between, Amounts, gain, fired, DifferByConstant}
use Rattle.dg_theory.proofs.SumBounds.{mul-nonpos, mul-cancel, sum_below-le_term}
use Rattle.dg_theory.proofs.Chains.{IsConnectedTo-stays}
use Rattle.dg_theory.proofs.Largest.{largest, IsLargest}
use Rattle.dg_theory.proofs.Scripts.{difference, fired-difference, fired-shifted}

level_next : (g : Multigraph) (k : Amounts) (a b : ℕ) → IsLargest g.size k a → gain g k a ≡ pos 0 →
    b < g.size → 0 < edges_between g a b → k b ≡ k a
level_next g k a b top nothing below edge =
    let term : gain g k a ≤ℤ (pos (edges_between g a b) *ℤ (k b -ℤ k a)) =
    sum_below-le_term g.size (λ w. pos (edges_between g a w) *ℤ (k w -ℤ k a))
    (λ w inside. let at : k w ≤ℤ k a = top w inside in
    mul-nonpos (edges_between g a w) (k w -ℤ k a) (omega (arith, ints)))
    b below in
    let high : pos 0 ≤ℤ (k b -ℤ k a) = mul-cancel (edges_between g a b) (k b -ℤ k a) edge (omega (arith, ints)) in
    let low : k b ≤ℤ k a = top b below in
    omega (arith, ints)

pub changes_nothing : (g : Multigraph) (k : Amounts) → IsMultigraph g → 0 < g.size →
    ((v : ℕ) → v < g.size → gain g k v ≡ pos 0) → (x : ℤ) × ((v : ℕ) → v < g.size → k v ≡ x)
changes_nothing g k graph some nothing =
    let (u, vertex, top) = largest g.size k some in
    let Level : ℕ → Type 0 = λ w. (k w ≡ k u) × (w < g.size) in
    let closed : (a b : ℕ) → Level a → b < g.size → 0 < edges_between g a b → Level b = λ a b level below edge.
    let same : k a ≡ k u = level.0 in
    let next : k b ≡ k a = level_next g k a b
    (λ w inside. let at : k w ≤ℤ k u = top w inside in omega (arith, ints)) (nothing a level.1) below edge in
    (next ∙ same, below) in
    (k u, λ v inside. (IsConnectedTo-stays Level closed (refl, vertex) (graph.connected u v vertex inside)).0)

difference_nothing : (g : Multigraph) (D s t : Amounts) → ((v : ℕ) → v < g.size → fired g D s v ≡ fired g D t v) →
    (v : ℕ) → v < g.size → gain g (difference s t) v ≡ pos 0
difference_nothing g D s t same v inside =
    let at : fired g D s v ≡ fired g D t v = same v inside in
    let there : fired g D t v +ℤ gain g (difference s t) v ≡ fired g D s v = fired-difference g D t s v inside in
    omega (arith, ints)

apart : (g : Multigraph) (n : ℕ) (D s t : Amounts) → IsMultigraph g → g.size ≡ n →
    ((v : ℕ) → v < g.size → fired g D s v ≡ fired g D t v) → (x : ℤ) × ((v : ℕ) → v < g.size → s v ≡ t v +ℤ x)
apart g zero D s t graph none same = (pos 0, λ v inside. absurd (omega arith))
apart g (suc n) D s t graph some same =
    let (x, level) = changes_nothing g (difference s t) graph (omega arith) (difference_nothing g D s t same) in
    (x, λ v inside. let at : difference s t v ≡ x = level v inside in omega (arith, ints))

pub same_by_constant : DifferByConstant
same_by_constant g D s t graph = (
  λ same. apart g g.size D s t graph refl same,
  λ constant. fired-shifted g D s t constant.0 constant.1,
)
