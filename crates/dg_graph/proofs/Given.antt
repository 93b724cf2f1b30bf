-- From the cells of the table to the graph that the items describe. The cells are the sums of the items' edges, each
-- cut off at 255, so the table is symmetric, and its first vertex with more than 63 edges is the first in the list
-- (high). With right items and at most 63 edges at each vertex the cells are the sums (exact), a vertex that no chain
-- joins to vertex 0 parts the list (parted), and otherwise the table is that of a graph (graph).
use Rattle.dg_graph.proofs.Common.{◌≡◌, ℕ, ◌<◌, ◌≤◌, min, List, arith, sym, ap, ◌∙◌, ⊎_elim, cases_lt, nat_sum_below, IsConnectedTo-cong, IsGraph, HasSixteenRows, EdgeItem, AreEdgeItems, IsSize, IsFirstHighValence, IsDisconnected, IsPairwiseConnected, HasUnreachable}
use Rattle.dg_theory.specs.Multigraph.{entry}
use Rattle.dg_graph.specs.Items.{edges_listed}
use Rattle.dg_graph.proofs.Listed.{edges_listed-symmetric, edges_listed-loopless, edges_listed-inside}
use Rattle.dg_graph.proofs.Capped.{capped-exact, capped-low, capped-high}

pub cells-symmetric : (items : List EdgeItem) (table : List (List ℕ)) →
    ((u v : ℕ) → entry table u v ≡ min 255 (edges_listed items u v)) →
    (u v : ℕ) → entry table u v ≡ entry table v u
cells-symmetric items table cells u v = cells u v ∙ ap (min 255) (edges_listed-symmetric items u v) ∙ sym (cells v u)

pub cells-high : (n : ℕ) (items : List EdgeItem) (table : List (List ℕ)) (v : ℕ) →
    ((u v : ℕ) → entry table u v ≡ min 255 (edges_listed items u v)) →
    v < n → 63 < nat_sum_below n (entry table v) → ((u : ℕ) → u < v → nat_sum_below n (entry table u) ≤ 63) →
    IsFirstHighValence n items v
cells-high n items table v cells vertex high least = record {
  vertex = vertex;
  high = capped-high n (entry table v) (edges_listed items v) (cells v) high;
  least = λ u below. capped-low n (entry table u) (edges_listed items u) (cells u) (least u below);
}

pub cells-exact : (n : ℕ) (items : List EdgeItem) (table : List (List ℕ)) → AreEdgeItems n items →
    ((u v : ℕ) → entry table u v ≡ min 255 (edges_listed items u v)) →
    ((v : ℕ) → v < n → nat_sum_below n (entry table v) ≤ 63) →
    (u v : ℕ) → entry table u v ≡ edges_listed items u v
cells-exact n items table right cells few u v =
    ⊎_elim
    (λ (u_below : u < n). ⊎_elim
    (λ (v_below : v < n). capped-exact n (entry table u) (edges_listed items u) (cells u) (few u u_below) v v_below)
    (λ (outside : n ≤ v). omega (arith, cells u v, edges_listed-inside n items u v right outside))
    (cases_lt v n))
    (λ (outside : n ≤ u).
    omega (arith, cells u v, edges_listed-symmetric items u v, edges_listed-inside n items v u right outside))
    (cases_lt u n)

pub cells-parted : (n : ℕ) (items : List EdgeItem) (table : List (List ℕ)) → IsSize n → AreEdgeItems n items →
    ((u v : ℕ) → entry table u v ≡ min 255 (edges_listed items u v)) →
    ((v : ℕ) → v < n → nat_sum_below n (entry table v) ≤ 63) → HasUnreachable n (entry table) →
    IsDisconnected n items
cells-parted n items table size right cells few (v, below, apart) = record {
  valences = λ u u_below. capped-low n (entry table u) (edges_listed items u) (cells u) (few u u_below);
  one = 0;
  other = v;
  one_vertex = size.0;
  other_vertex = below;
  parted = λ chain. apart (IsConnectedTo-cong (λ a b. sym (cells-exact n items table right cells few a b)) chain);
}

pub cells-graph : (n : ℕ) (items : List EdgeItem) (table : List (List ℕ)) → IsSize n → AreEdgeItems n items →
    ((u v : ℕ) → entry table u v ≡ min 255 (edges_listed items u v)) →
    ((v : ℕ) → v < n → nat_sum_below n (entry table v) ≤ 63) → IsPairwiseConnected n (entry table) →
    HasSixteenRows table → IsGraph (record { size = n; table = table })
cells-graph n items table size right cells few joined square = record {
  some = size.0;
  few = size.1;
  multigraph = record {
    symmetric = cells-symmetric items table cells;
    loopless = λ v. omega (arith, cells v v, edges_listed-loopless n items v right);
    inside = λ u v outside. omega (arith, cells u v, edges_listed-inside n items u v right outside);
    connected = joined;
  };
  valences = few;
  square = square;
}
