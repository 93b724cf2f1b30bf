-- The limits of a graph on a table.
--   HasSixteenRows table == the table has 16 rows of 16 numbers
--   IsGraph g            == a connected multigraph without loops, of 1 to 16 vertices, with at most 63 edges at
--                           each vertex, and a table of 16 rows of 16; so two graphs are one if they have as
--                           many vertices and the same edges
use Rattle.std.specs.Prelude.{◌≡◌, ℕ, ◌<◌, ◌≤◌, List, [], length}
use Rattle.std.specs.List.{slice_index_or}
use Rattle.dg_theory.specs.Multigraph.{Multigraph, IsMultigraph, valence}
use Rattle.dg_graph.specs.declared.graph.TheConstants.{MAX_VERTICES, MAX_VALENCE}

pub record HasSixteenRows (table : List (List ℕ)) : Type 0 where
  pub rows : length table ≡ MAX_VERTICES
  pub places : (v : ℕ) → v < MAX_VERTICES → length (slice_index_or table v []) ≡ MAX_VERTICES

pub record IsGraph (g : Multigraph) : Type 0 where
  pub some : 1 ≤ g.size
  pub few : g.size ≤ MAX_VERTICES
  pub multigraph : IsMultigraph g
  pub valences : (v : ℕ) → v < g.size → valence g v ≤ MAX_VALENCE
  pub square : HasSixteenRows g.table
