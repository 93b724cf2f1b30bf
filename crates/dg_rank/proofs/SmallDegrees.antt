-- Degrees and genera are small.
--   edges_few        a graph has at most 63 ends of edges for each vertex
--   genus_small      the genus of a graph is at most 489
--   genus_least      and at least -16
--   degree_small     n amounts within 1,000,000 add up to at most n times as much
use Rattle.dg_rank.proofs.Common.{◌≡◌, ℕ, zero, suc, ◌+◌, ◌*◌, ◌<◌, ◌≤◌, arith, refl, suc-mul, ◌≤ℤ◌, unsigned_abs, ints, pos, ◌-ℤ◌, sum_below, nat_sum_below, Multigraph, valence, edge_count, genus, Amounts, degree, sum_below-zero, sum_below-at_least, sum_below-sub, IsGraph}
use Rattle.std.proofs.Math.IntN.{◌+ℤ◌}
use Rattle.dg_theory.proofs.OrderDegrees.{valence_total}

pub nat_sum_below-times : (n K : ℕ) (f : ℕ → ℕ) → ((w : ℕ) → w < n → f w ≤ K) → nat_sum_below n f ≤ n * K
nat_sum_below-times zero K f low = omega arith
nat_sum_below-times (suc n) K f low =
    let before : nat_sum_below n f ≤ n * K = nat_sum_below-times n K f (λ w below. low w (omega arith)) in
    let last : f n ≤ K = low n (omega arith) in
    let more : suc n * K ≡ n * K + K = suc-mul n K in
    omega arith

pub edges_few : (g : Multigraph) → IsGraph g → edge_count g + edge_count g ≤ g.size * 63
edges_few g graph =
    omega (arith, valence_total g graph.multigraph, nat_sum_below-times g.size 63 (valence g) graph.valences)

pub genus_small : (g : Multigraph) → IsGraph g → genus g ≤ℤ pos 489
genus_small g graph = omega (arith, ints, edges_few g graph, graph.few)

pub genus_least : (g : Multigraph) → IsGraph g → pos 0 ≤ℤ (genus g +ℤ pos 16)
genus_least g graph = omega (arith, ints, graph.few)

pub degree_small : (n : ℕ) (D : Amounts) → ((v : ℕ) → v < n → unsigned_abs (D v) ≤ 1000000) →
    unsigned_abs (degree n D) ≤ n * 1000000
degree_small n D range =
    let debts : Amounts = λ w. pos 0 -ℤ D w in
    let least : pos 0 ≤ℤ (sum_below n D +ℤ pos (n * 1000000)) =
    sum_below-at_least n 1000000 D (λ w below. omega (arith, ints, range w below)) in
    let most : pos 0 ≤ℤ (sum_below n debts +ℤ pos (n * 1000000)) =
    sum_below-at_least n 1000000 debts (λ w below. omega (arith, ints, range w below)) in
    let apart : sum_below n debts ≡ sum_below n (λ _. pos 0) -ℤ sum_below n D = sum_below-sub n (λ _. pos 0) D in
    let none : sum_below n (λ _. pos 0) ≡ pos 0 = sum_below-zero n (λ _. pos 0) (λ w below. refl) in
    omega (arith, ints)
