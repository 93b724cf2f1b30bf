-- A graph with one more edge.
--   set-row_with_edge      to set a number of a row to one more is to have one more there
--   set-table_with_edge    and to set a row of a table to that is to have one more in that row
--   row_with_edge-length, table_with_edge-square, with_edge-square   which keeps the lengths of rows and table
--   edges_few         a vertex with room for one more edge has few to each other vertex,
--   edges_few_back    also in the table with one more edge from the other vertex
--   joined_is         the table after both steps is that of the graph with one more edge,
--   joined_graph      which is within the limits
use Rattle.dg_graph.proofs.Common.{◌≡◌, ℕ, zero, suc, ◌+◌, ◌<◌, ◌≤◌, List, [], ◌∷◌, length, set, arith, refl, sym, ap, subst, ◌∙◌, slice_index, slice_index_or, nat_tests, Multigraph, edges_between, valence, row_with_edge, table_with_edge, endpoint_indicator, table_with_edge-row, size_stays, joined_is_multigraph, valence_grows, nat_sum_below-term, IsGraph, HasSixteenRows, IsJoinable, length-set}
use Rattle.dg_theory.specs.Multigraph.{entry}
use Rattle.dg_theory.specs.Joins.{with_edge}
use Rattle.dg_graph.proofs.Squares.{set_square}

pub set-row_with_edge : (row : List ℕ) (v : ℕ) → v < length row → set row v (slice_index row v + 1) ≡ row_with_edge row v
set-row_with_edge [] v inside = absurd (omega arith)
set-row_with_edge (x ∷ row) zero inside = refl
set-row_with_edge (x ∷ row) (suc v) inside = ap (λ (l : List ℕ). x ∷ l) (set-row_with_edge row v (omega arith))

pub set-table_with_edge : (table : List (List ℕ)) (u v : ℕ) → u < length table →
    set table u (row_with_edge (slice_index_or table u []) v) ≡ table_with_edge table u v
set-table_with_edge [] u v inside = absurd (omega arith)
set-table_with_edge (row ∷ table) zero v inside = refl
set-table_with_edge (row ∷ table) (suc u) v inside =
    ap (λ (l : List (List ℕ)). row ∷ l) (set-table_with_edge table u v (omega arith))

row_with_edge-length : (row : List ℕ) (v : ℕ) → v < length row → length (row_with_edge row v) ≡ length row
row_with_edge-length row v inside =
    sym (ap (length {A = ℕ}) (set-row_with_edge row v inside)) ∙ length-set row v (slice_index row v + 1)

table_with_edge-square : (table : List (List ℕ)) (u v : ℕ) → u < 16 → v < 16 → HasSixteenRows table →
    HasSixteenRows (table_with_edge table u v)
table_with_edge-square table u v row column square =
    let inside : u < length table = omega (arith, square.rows) in
    let last : v < length (slice_index_or table u []) = omega (arith, square.places u row) in
    subst HasSixteenRows (set-table_with_edge table u v inside)
    (set_square table u (row_with_edge (slice_index_or table u []) v) row
    (row_with_edge-length (slice_index_or table u []) v last ∙ square.places u row) square)

pub edges_few : (g : Multigraph) (u v : ℕ) → v < g.size → valence g u < 63 → entry g.table u v < 255
edges_few g u v inside room = omega (arith, nat_sum_below-term g.size (edges_between g u) v inside)

pub edges_few_back : (g : Multigraph) (u v : ℕ) → IsJoinable g u v → entry (table_with_edge g.table u v) v u < 255
edges_few_back g u v joinable =
    omega (
      arith,
      table_with_edge-row g.table u v v u (λ same. joinable.different (sym same)),
      edges_few g v u joinable.first joinable.second_room,
    )

valence_left : (a b u v w m : ℕ) → a ≡ b + endpoint_indicator u v w → b ≤ m → (w ≡ u → b < m) → (w ≡ v → b < m) → a ≤ m
valence_left a b u v w m grows few first second = grind (arith, nat_tests)

pub joined_is : (g : Multigraph) (u v : ℕ) (once both : List (List ℕ)) → once ≡ table_with_edge g.table u v →
    both ≡ table_with_edge once v u →
    record { size = g.size; table = both } ≡ with_edge g u v
unfolding with_edge
joined_is g u v once both first second =
    ap (λ (table : List (List ℕ)). record { size = g.size; table = table })
    (second ∙ ap (λ (table : List (List ℕ)). table_with_edge table v u) first)

with_edge-square : (g : Multigraph) (u v : ℕ) → IsGraph g → IsJoinable g u v → HasSixteenRows (with_edge g u v).table
unfolding with_edge
with_edge-square g u v graph joinable =
    let first : u < 16 = omega (arith, joinable.first, graph.few) in
    let second : v < 16 = omega (arith, joinable.second, graph.few) in
    table_with_edge-square (table_with_edge g.table u v) v u second first
    (table_with_edge-square g.table u v first second graph.square)

pub with_edge-graph : (g : Multigraph) (u v : ℕ) → IsGraph g → IsJoinable g u v → IsGraph (with_edge g u v)
with_edge-graph g u v graph joinable =
    let size : (with_edge g u v).size ≡ g.size = size_stays g u v in
    record {
      some = omega (arith, size, graph.some);
      few = omega (arith, size, graph.few);
      multigraph = joined_is_multigraph g u v graph.multigraph joinable.first joinable.second joinable.different;
      valences = λ w below.
          valence_left (valence (with_edge g u v) w) (valence g w) u v w 63
          (valence_grows g u v joinable.first joinable.second joinable.different w)
          (graph.valences w (omega (arith, size, below)))
          (λ here. rw here joinable.first_room) (λ here. rw here joinable.second_room);
      square = with_edge-square g u v graph joinable;
    }

pub joined_graph : (g : Multigraph) (u v : ℕ) (once both : List (List ℕ)) → IsGraph g → IsJoinable g u v →
    once ≡ table_with_edge g.table u v → both ≡ table_with_edge once v u → IsGraph (record { size = g.size; table = both })
joined_graph g u v once both graph joinable first second =
    subst IsGraph (sym (joined_is g u v once both first second)) (with_edge-graph g u v graph joinable)
