-- What happens where one vertex v lends x times, and borrows where x is negative.
--   gain-lender       it loses x dollars along each of its edges
--   gain-neighbour    any other vertex gets x dollars along each edge to it
--   gain-outside      and where there is no vertex, nothing comes
--   fired-outside     so a 0 that stands there stays
--   fired-lender      whoever takes from the amounts what v lends, and then gives each vertex what comes along its
--                     edges to v, has the amounts after it
--   held_gain         a machine's sum of an amount and what comes to it is the amount after it
--   read_back         and is read as that, where it was written
use Rattle.dg_chips.proofs.Common.{◌≡◌, ◌≢◌, ℕ, ◌<◌, ◌≤◌, List, length, slice_set, get_or-set_same, arith, refl, ◌∙◌, ⊎_elim, w32, unsigned_abs, slice_index_or, to_z, of_z, cases_eq, ints, ℤ, pos, ◌+ℤ◌, ◌-ℤ◌, ◌*ℤ◌, *ℤ-zero, zero-*ℤ, sum_below, Multigraph, IsMultigraph, edges_between, valence, Amounts, gain, fired, only_at, within_abs, mulz-sub, sum_below-zero, sum_below-differ_at, only_at-here, only_at-other}
use Rattle.dg_chips.proofs.FlowLaws.{sum_below-edges}

-- what comes to u from w
abbrev along : Multigraph → ℕ → ℤ → ℕ → ℕ → ℤ
along g v x u w = pos (edges_between g u w) *ℤ (only_at v x w -ℤ only_at v x u)

pub gain-lender : (g : Multigraph) (v : ℕ) (x : ℤ) → IsMultigraph g → v < g.size →
    gain g (only_at v x) v +ℤ pos (valence g v) *ℤ x ≡ pos 0
gain-lender g v x graph inside =
    let others : (w : ℕ) → w < g.size → w ≢ v → along g v x v w ≡ pos (edges_between g v w) *ℤ (pos 0 -ℤ x) =
    λ w below apart. rw (only_at-other v x w apart, only_at-here v x) refl in
    let here : along g v x v v ≡ pos 0 = rw (graph.loopless v) (zero-*ℤ (only_at v x v -ℤ only_at v x v)) in
    let none : pos (edges_between g v v) *ℤ (pos 0 -ℤ x) ≡ pos 0 = rw (graph.loopless v) (zero-*ℤ (pos 0 -ℤ x)) in
    let differ : sum_below g.size (along g v x v) +ℤ pos (edges_between g v v) *ℤ (pos 0 -ℤ x)
    ≡ sum_below g.size (λ w. pos (edges_between g v w) *ℤ (pos 0 -ℤ x)) +ℤ along g v x v v =
    sum_below-differ_at g.size (along g v x v) (λ w. pos (edges_between g v w) *ℤ (pos 0 -ℤ x)) v inside others in
    let whole : gain g (only_at v x) v ≡ pos (valence g v) *ℤ (pos 0 -ℤ x) =
    omega (arith, ints, sum_below-edges g.size (edges_between g v) (pos 0 -ℤ x)) in
    omega (arith, ints, mulz-sub (pos (valence g v)) (pos 0) x, *ℤ-zero (pos (valence g v)))

pub gain-neighbour : (g : Multigraph) (v : ℕ) (x : ℤ) (u : ℕ) → IsMultigraph g → v < g.size → u ≢ v →
    gain g (only_at v x) u ≡ pos (edges_between g v u) *ℤ x
gain-neighbour g v x u graph inside other =
    let idle : only_at v x u ≡ pos 0 = only_at-other v x u other in
    let others : (w : ℕ) → w < g.size → w ≢ v → along g v x u w ≡ pos 0 =
    λ w below apart. rw (only_at-other v x w apart, idle) (*ℤ-zero (pos (edges_between g u w))) in
    let all : x -ℤ pos 0 ≡ x = omega (arith, ints) in
    let there : along g v x u v ≡ pos (edges_between g v u) *ℤ x =
    rw (only_at-here v x, idle, all, graph.symmetric u v) refl in
    let differ : sum_below g.size (along g v x u) +ℤ pos 0 ≡ sum_below g.size (λ _. pos 0) +ℤ along g v x u v =
    sum_below-differ_at g.size (along g v x u) (λ _. pos 0) v inside others in
    omega (arith, ints, sum_below-zero g.size (λ _. pos 0) (λ w below. refl))

pub gain-outside : (g : Multigraph) (v : ℕ) (x : ℤ) (u : ℕ) → IsMultigraph g → v < g.size → g.size ≤ u →
    gain g (only_at v x) u ≡ pos 0
gain-outside g v x u graph inside past =
    let other : u ≢ v = omega arith in
    gain-neighbour g v x u graph inside other ∙ rw (graph.inside v u past) (zero-*ℤ x)

pub fired-outside : (g : Multigraph) (D : Amounts) (v : ℕ) (x : ℤ) (u : ℕ) → IsMultigraph g → v < g.size → g.size ≤ u →
    D u ≡ pos 0 → fired g D (only_at v x) u ≡ pos 0
fired-outside g D v x u graph inside past none = omega (arith, ints, gain-outside g v x u graph inside past)

pub fired-lender : (g : Multigraph) (D E : Amounts) (v : ℕ) (x : ℤ) → IsMultigraph g → v < g.size →
    E v ≡ D v -ℤ pos (valence g v) *ℤ x → ((u : ℕ) → u ≢ v → E u ≡ D u) →
    (u : ℕ) → E u +ℤ pos (edges_between g v u) *ℤ x ≡ fired g D (only_at v x) u
fired-lender g D E v x graph inside less same u =
    ⊎_elim
    (λ (here : u ≡ v).
    let none : pos (edges_between g v v) *ℤ x ≡ pos 0 = rw (graph.loopless v) (zero-*ℤ x) in
    rw here (omega (arith, ints, gain-lender g v x graph inside)))
    (λ (other : u ≢ v). omega (arith, ints, same u other, gain-neighbour g v x u graph inside other))
    (cases_eq u v)

pub held_gain : (a b got after : ℤ) → unsigned_abs a ≤ 1000255 → unsigned_abs b ≤ 255 → b ≡ got → a +ℤ got ≡ after →
    to_z w32 (of_z w32 (to_z w32 (of_z w32 a) +ℤ to_z w32 (of_z w32 b))) ≡ after
held_gain a b got after small few same sum =
    let (low, high) = within_abs a 1000255 small in
    let (low', high') = within_abs b 255 few in
    omega (arith, ints)

pub read_back : (xs : List ℤ) (w : ℕ) (a after : ℤ) → w < length xs → to_z w32 (of_z w32 a) ≡ after →
    to_z w32 (of_z w32 (slice_index_or (slice_set xs w (to_z w32 (of_z w32 a))) w (pos 0))) ≡ after
read_back xs w a after within same =
    rw (get_or-set_same xs w (to_z w32 (of_z w32 a)) (pos 0) within) (omega (arith, ints))
