-- Finite multigraphs (Baker and Norine 2007, section 1; Corry and Perkinson, chapter 1).
-- A multigraph has the vertices 0, 1, .. up to its size, and a table: the number in row u and
-- column v tells how many edges join u and v.
--   Multigraph            == a number of vertices, and a table
--   entry table u v       == the number in row u and column v, and 0 outside the table
--   edges_between g u v   == how many edges join u and v
--   IsConnectedTo n e u v == a chain of edges leads from u to v, if e tells the edges and n the number
--                            of vertices
--   IsMultigraph g        == symmetric, without loops, and connected
--   valence g v           == how many edges meet at v
--   edge_count g          == how many edges there are, each pair of vertices counted once
--   genus g               == the number of edges, less that of vertices, plus 1
use Rattle.std.specs.Prelude.{◌≡◌, ℕ, ◌<◌, ◌≤◌, ℤ, pos, ◌+ℤ◌, ◌-ℤ◌, List, [], slice_index}
use Rattle.std.specs.List.{slice_index_or}
use Rattle.dg_theory.specs.Sums.{nat_sum_below}

pub record Multigraph : Type 0 where
  pub size : ℕ
  pub table : List (List ℕ)

unfoldable pub entry : List (List ℕ) → ℕ → ℕ → ℕ
entry table u v = slice_index (slice_index_or table u []) v

abbrev pub edges_between : Multigraph → ℕ → ℕ → ℕ
edges_between g u v = entry g.table u v

pub data IsConnectedTo (n : ℕ) (e : ℕ → ℕ → ℕ) (u : ℕ) : ℕ → Type 0 where
  here : IsConnectedTo n e u u
  along : (v w : ℕ) → IsConnectedTo n e u v → w < n → 0 < e v w → IsConnectedTo n e u w

pub record IsMultigraph (g : Multigraph) : Type 0 where
  pub symmetric : (u v : ℕ) → edges_between g u v ≡ edges_between g v u
  pub loopless : (v : ℕ) → edges_between g v v ≡ 0
  pub inside : (u v : ℕ) → g.size ≤ v → edges_between g u v ≡ 0
  pub connected : (u v : ℕ) → u < g.size → v < g.size → IsConnectedTo g.size (edges_between g) u v

abbrev pub valence : Multigraph → ℕ → ℕ
valence g v = nat_sum_below g.size (edges_between g v)

abbrev pub edge_count : Multigraph → ℕ
edge_count g = nat_sum_below g.size (λ v. nat_sum_below v (edges_between g v))

abbrev pub genus : Multigraph → ℤ
genus g = (pos (edge_count g) -ℤ pos g.size) +ℤ pos 1
