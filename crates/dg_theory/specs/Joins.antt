-- One edge more. A row of numbers may end anywhere, and so may a table of rows: what is read past
-- the end is 0, and what is added there is put behind as many zeros, or empty rows, as it takes.
--   row_with_edge row v   == the row with its number at v one higher
--   table_with_edge table u v == the table with its number in row u and column v one higher
--   with_edge g u v       == the multigraph g with one more edge between u and v
--   pair_indicator u v a b       == 1 if a and b are u and v, in either order, and 0 elsewhere
--   endpoint_indicator u v w       == 1 if w is u or v, and 0 elsewhere
use Rattle.std.specs.Prelude.{ℕ, zero, suc, ◌+◌, ◌==◌, ◌&&◌, ◌||◌, if◌then◌else◌, List, [], ◌∷◌}
use Rattle.dg_theory.specs.Multigraph.{Multigraph}

abbrev pub row_with_edge : List ℕ → ℕ → List ℕ
row_with_edge [] zero = 1 ∷ []
row_with_edge [] (suc v) = 0 ∷ row_with_edge [] v
row_with_edge (x ∷ row) zero = (x + 1) ∷ row
row_with_edge (x ∷ row) (suc v) = x ∷ row_with_edge row v

abbrev pub table_with_edge : List (List ℕ) → ℕ → ℕ → List (List ℕ)
table_with_edge [] zero v = row_with_edge [] v ∷ []
table_with_edge [] (suc u) v = [] ∷ table_with_edge [] u v
table_with_edge (row ∷ table) zero v = row_with_edge row v ∷ table
table_with_edge (row ∷ table) (suc u) v = row ∷ table_with_edge table u v

unfoldable pub with_edge : Multigraph → ℕ → ℕ → Multigraph
with_edge g u v = record { size = g.size; table = table_with_edge (table_with_edge g.table u v) v u }

abbrev pub pair_indicator : ℕ → ℕ → ℕ → ℕ → ℕ
pair_indicator u v a b = if (a == u && b == v) || (a == v && b == u) then 1 else 0

abbrev pub endpoint_indicator : ℕ → ℕ → ℕ → ℕ
endpoint_indicator u v w = if w == u || w == v then 1 else 0
