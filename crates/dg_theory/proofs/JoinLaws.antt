-- One edge more.
--   row_with_edge-same        the number at the place is one higher
--   row_with_edge-other       those at other places are as before
--   table_with_edge-same      so it is with a table: the number in the row and the column,
--   table_with_edge-column    those in its other columns,
--   table_with_edge-row       and those in other rows
--   pair_indicator-turned       a pair is the same either way
--   edge_is_added        the law of the edges between two vertices
--   size_stays           the law of the size
--   joined_is_multigraph the law of multigraphs
--   valence_grows        the law of valences
use Rattle.dg_theory.proofs.Common.{◌≡◌, ◌≢◌, ℕ, zero, suc, ◌+◌, ◌<◌, ◌≤◌, List, [], ◌∷◌, arith, refl, ap, ◌∙◌, inl, inr, slice_index, slice_index_or, cases_eq, nat_tests, nat_sum_below, IsConnectedTo, edges_between, row_with_edge, table_with_edge, pair_indicator, endpoint_indicator, JoinAddsEdge, JoinedIsMultigraph, ValenceGrows, EdgeKeepsSize}
use Rattle.dg_theory.specs.Multigraph.{entry}
use Rattle.dg_theory.specs.Joins.{with_edge}
use Rattle.dg_theory.proofs.Chains.{IsConnectedTo-more}
use Rattle.dg_theory.proofs.TotalLaws.{nat_sum_below-cong, nat_sum_below-differ_at}

pub row_with_edge-same : (row : List ℕ) (v : ℕ) → slice_index (row_with_edge row v) v ≡ slice_index row v + 1
row_with_edge-same [] zero = refl
row_with_edge-same [] (suc v) = row_with_edge-same [] v
row_with_edge-same (x ∷ row) zero = refl
row_with_edge-same (x ∷ row) (suc v) = row_with_edge-same row v

pub row_with_edge-other : (row : List ℕ) (v w : ℕ) → w ≢ v → slice_index (row_with_edge row v) w ≡ slice_index row w
row_with_edge-other [] zero zero other = absurd (other refl)
row_with_edge-other [] zero (suc w) other = refl
row_with_edge-other [] (suc v) zero other = refl
row_with_edge-other [] (suc v) (suc w) other = row_with_edge-other [] v w (λ same. other (ap suc same))
row_with_edge-other (x ∷ row) zero zero other = absurd (other refl)
row_with_edge-other (x ∷ row) zero (suc w) other = refl
row_with_edge-other (x ∷ row) (suc v) zero other = refl
row_with_edge-other (x ∷ row) (suc v) (suc w) other = row_with_edge-other row v w (λ same. other (ap suc same))

row-same : (table : List (List ℕ)) (u v : ℕ) →
    slice_index_or (table_with_edge table u v) u [] ≡ row_with_edge (slice_index_or table u []) v
row-same [] zero v = refl
row-same [] (suc u) v = row-same [] u v
row-same (row ∷ table) zero v = refl
row-same (row ∷ table) (suc u) v = row-same table u v

row-other : (table : List (List ℕ)) (u v a : ℕ) → a ≢ u →
    slice_index_or (table_with_edge table u v) a [] ≡ slice_index_or table a []
row-other [] zero v zero other = absurd (other refl)
row-other [] zero v (suc a) other = refl
row-other [] (suc u) v zero other = refl
row-other [] (suc u) v (suc a) other = row-other [] u v a (λ same. other (ap suc same))
row-other (row ∷ table) zero v zero other = absurd (other refl)
row-other (row ∷ table) zero v (suc a) other = refl
row-other (row ∷ table) (suc u) v zero other = refl
row-other (row ∷ table) (suc u) v (suc a) other = row-other table u v a (λ same. other (ap suc same))

pub table_with_edge-same : (table : List (List ℕ)) (u v : ℕ) → entry (table_with_edge table u v) u v ≡ entry table u v + 1
unfolding entry
table_with_edge-same table u v =
    ap (λ (row : List ℕ). slice_index row v) (row-same table u v) ∙ row_with_edge-same (slice_index_or table u []) v

pub table_with_edge-column : (table : List (List ℕ)) (u v b : ℕ) → b ≢ v → entry (table_with_edge table u v) u b ≡ entry table u b
unfolding entry
table_with_edge-column table u v b other =
    ap (λ (row : List ℕ). slice_index row b) (row-same table u v) ∙ row_with_edge-other (slice_index_or table u []) v b other

pub table_with_edge-row : (table : List (List ℕ)) (u v a b : ℕ) → a ≢ u → entry (table_with_edge table u v) a b ≡ entry table a b
unfolding entry
table_with_edge-row table u v a b other = ap (λ (row : List ℕ). slice_index row b) (row-other table u v a other)

-- a cell and the one across the diagonal, one after the other
both_more : (before middle after : ℕ → ℕ → ℕ) (u v : ℕ) → u ≢ v →
    middle u v ≡ before u v + 1 → ((b : ℕ) → b ≢ v → middle u b ≡ before u b) →
    ((a b : ℕ) → a ≢ u → middle a b ≡ before a b) →
    after v u ≡ middle v u + 1 → ((b : ℕ) → b ≢ u → after v b ≡ middle v b) →
    ((a b : ℕ) → a ≢ v → after a b ≡ middle a b) → (a b : ℕ) → after a b ≡ before a b + pair_indicator u v a b
both_more before middle after u v different at row others back column rest a b = grind (arith, nat_tests)

pub edge_is_added : JoinAddsEdge
unfolding with_edge
edge_is_added g u v different =
    let once : List (List ℕ) = table_with_edge g.table u v in
    both_more (entry g.table) (entry once) (entry (table_with_edge once v u)) u v different
    (table_with_edge-same g.table u v) (table_with_edge-column g.table u v) (table_with_edge-row g.table u v)
    (table_with_edge-same once v u) (table_with_edge-column once v u) (table_with_edge-row once v u)

pub size_stays : EdgeKeepsSize
unfolding with_edge
size_stays g u v = refl

pub pair_indicator-turned : (u v a b : ℕ) → pair_indicator u v a b ≡ pair_indicator u v b a
pair_indicator-turned u v a b = grind (arith, nat_tests)

no_loop : (u v w : ℕ) → u ≢ v → pair_indicator u v w w ≡ 0
no_loop u v w different = grind (arith, nat_tests)

none_past : (n u v a b : ℕ) → u < n → v < n → n ≤ b → pair_indicator u v a b ≡ 0
none_past n u v a b first second past = grind (arith, nat_tests)

pub joined_is_multigraph : JoinedIsMultigraph
joined_is_multigraph g u v graph first second different =
    let edges : ℕ → ℕ → ℕ = edges_between g in
    let joined : ℕ → ℕ → ℕ = edges_between (with_edge g u v) in
    let added : (a b : ℕ) → joined a b ≡ edges a b + pair_indicator u v a b = edge_is_added g u v different in
    record {
      symmetric = λ a b. omega (arith, added a b, added b a, graph.symmetric a b, pair_indicator-turned u v a b);
      loopless = λ w. omega (arith, added w w, graph.loopless w, no_loop u v w different);
      inside = λ a b past.
          let outside : g.size ≤ b = omega (arith, past, size_stays g u v) in
          omega (arith, added a b, graph.inside a b outside, none_past g.size u v a b first second outside);
      connected = λ a b a_below b_below.
          let chain : IsConnectedTo g.size edges a b =
          graph.connected a b (omega (arith, a_below, size_stays g u v)) (omega (arith, b_below, size_stays g u v)) in
          rw (size_stays g u v) (IsConnectedTo-more (λ c d. omega (arith, added c d)) chain);
    }

total_more : (n : ℕ) (f h : ℕ → ℕ) (u v w : ℕ) → u < n → v < n → u ≢ v → ((b : ℕ) → f b ≡ h b + pair_indicator u v w b) →
    nat_sum_below n f ≡ nat_sum_below n h + endpoint_indicator u v w
total_more n f h u v w first second different added = elim (cases_eq w u) [
  | inl here ↦
      let one : f v ≡ h v + 1 = grind (arith, nat_tests, added v) in
      let rest : (b : ℕ) → b < n → b ≢ v → f b ≡ h b = λ b below other. grind (arith, nat_tests, added b) in
      let meets : endpoint_indicator u v w ≡ 1 = grind (arith, nat_tests) in
      omega (arith, nat_sum_below-differ_at n f h v second rest, one, meets)
  | inr elsewhere ↦ elim (cases_eq w v) [
    | inl here ↦
        let one : f u ≡ h u + 1 = grind (arith, nat_tests, added u) in
        let rest : (b : ℕ) → b < n → b ≢ u → f b ≡ h b = λ b below other. grind (arith, nat_tests, added b) in
        let meets : endpoint_indicator u v w ≡ 1 = grind (arith, nat_tests) in
        omega (arith, nat_sum_below-differ_at n f h u first rest, one, meets)
    | inr nowhere ↦
        let all : (b : ℕ) → b < n → f b ≡ h b = λ b below. grind (arith, nat_tests, added b) in
        let misses : endpoint_indicator u v w ≡ 0 = grind (arith, nat_tests) in
        omega (arith, nat_sum_below-cong n f h all, misses)
  ]
]

pub valence_grows : ValenceGrows
valence_grows g u v first second different w =
    rw (size_stays g u v)
    (total_more g.size (edges_between (with_edge g u v) w) (edges_between g w) u v w first second different
    (edge_is_added g u v different w))
