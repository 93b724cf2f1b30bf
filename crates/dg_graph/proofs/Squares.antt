-- Tables of 16 rows of 16.
--   none_square  that of no edges is one
--   set_square   a row of 16 numbers may be put into one
--   one_table    it is told by its numbers,
--   one_graph    and so a graph by its size and its edges
use Rattle.dg_graph.proofs.Common.{◌≡◌, ◌≢◌, ℕ, ◌<◌, List, [], length, set, arith, refl, sym, ◌∙◌, ⊎_elim, cases_eq, ext_get_or, length-set, get_or-set_same, get_or-set_other, get_or-replicate, replicate, ap, slice_index_or, Multigraph, edges_between, IsGraph, HasSixteenRows}
use Rattle.dg_theory.specs.Multigraph.{entry}

pub none_square : HasSixteenRows (replicate 16 (replicate 16 0))
none_square = record {
  rows = refl;
  places = λ v below. ap length (get_or-replicate 16 v (replicate 16 0) [] below);
}

pub set_square : (table : List (List ℕ)) (u : ℕ) (row : List ℕ) → u < 16 → length row ≡ 16 → HasSixteenRows table →
    HasSixteenRows (set table u row)
set_square table u row below long square =
    let inside : u < length table = omega (arith, square.rows) in
    record {
      rows = length-set table u row ∙ square.rows;
      places = λ w under. ⊎_elim
          (λ (same : w ≡ u). rw (same, get_or-set_same table u row [] inside) long)
          (λ (other : w ≢ u). rw (get_or-set_other table u w row [] other) (square.places w under))
          (cases_eq w u);
    }

pub one_table : (t s : List (List ℕ)) → HasSixteenRows t → HasSixteenRows s → ((u v : ℕ) → entry t u v ≡ entry s u v) → t ≡ s
unfolding entry
one_table t s square other same = ext_get_or [] t s (square.rows ∙ sym other.rows) (λ u below.
    let row : u < 16 = omega (arith, square.rows) in
    ext_get_or 0 (slice_index_or t u []) (slice_index_or s u []) (square.places u row ∙ sym (other.places u row))
    (λ v inside. same u v))

pub one_graph : (g h : Multigraph) → IsGraph g → IsGraph h → g.size ≡ h.size →
    ((u v : ℕ) → edges_between g u v ≡ edges_between h u v) → g ≡ h
one_graph g h graph other sizes edges =
    let tables : g.table ≡ h.table = one_table g.table h.table graph.square other.square edges in
    λ i. record { size = sizes i; table = tables i }
