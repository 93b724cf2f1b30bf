-- A graph given by a list of items. An item is two vertices and the number of edges that it puts
-- between them; a pair of vertices that stands in several items has the sum of their edges.
--   EdgeItem                 == two vertices, and the number of edges between them
--   item_edges item u v      == how many edges the item puts between u and v
--   edges_listed items u v   == how many edges the list puts between u and v
--   valence_listed n items v == how many edges the list puts at v, of n vertices
--   IsEdgeItem n item        == a right item: two different vertices below n and at least one edge
--   AreEdgeItems n items     == right items only
--   AreItemsBefore n items i == the items before item i are right
--   HasEdgeItem items i P    == there is an item i, and it is P
--   IsGraphOf n items g      == g is the graph of n vertices that the items describe
use Rattle.std.specs.Prelude.{if◌then◌else◌, ◌≡◌, ◌≢◌, ℕ, ◌<◌, ◌≤◌, ◌==◌, ◌&&◌, ◌||◌, List, length, slice_get, Some, sum_by}
use Rattle.dg_theory.specs.Multigraph.{Multigraph, edges_between}
use Rattle.dg_theory.specs.Sums.{nat_sum_below}
use Rattle.dg_graph.specs.Graph.{IsGraph}

abbrev pub EdgeItem : Type 0
EdgeItem = ℕ × ℕ × ℕ

abbrev pub item_edges : EdgeItem → ℕ → ℕ → ℕ
item_edges item u v =
    if (item.0 == u && item.1 == v) || (item.0 == v && item.1 == u) then item.2 else 0

unfoldable pub edges_listed : List EdgeItem → ℕ → ℕ → ℕ
edges_listed items u v = sum_by (λ item. item_edges item u v) items

abbrev pub valence_listed : ℕ → List EdgeItem → ℕ → ℕ
valence_listed n items v = nat_sum_below n (edges_listed items v)

pub record IsEdgeItem (n : ℕ) (item : EdgeItem) : Type 0 where
  pub first : item.0 < n
  pub second : item.1 < n
  pub different : item.0 ≢ item.1
  pub edges : 1 ≤ item.2

abbrev pub AreItemsBefore : ℕ → List EdgeItem → ℕ → Type 0
AreItemsBefore n items i =
    (k : ℕ) (item : EdgeItem) → k < i → slice_get items k ≡ Some item → IsEdgeItem n item

abbrev pub AreEdgeItems : ℕ → List EdgeItem → Type 0
AreEdgeItems n items = AreItemsBefore n items (length items)

abbrev pub HasEdgeItem : List EdgeItem → ℕ → (EdgeItem → Type 0) → Type 0
HasEdgeItem items i P = (item : EdgeItem) × (slice_get items i ≡ Some item) × P item

pub record IsGraphOf (n : ℕ) (items : List EdgeItem) (g : Multigraph) : Type 0 where
  pub graph : IsGraph g
  pub size : g.size ≡ n
  pub right : AreEdgeItems n items
  pub edges : (u v : ℕ) → edges_between g u v ≡ edges_listed items u v
