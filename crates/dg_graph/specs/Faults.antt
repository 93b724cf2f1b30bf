-- When a graph is refused, and with which fault: each case says that no earlier one applies.
--   IsSize n                     == the number of vertices is within the limits
--   JoinsNoVertex n item         == the item names a number that is none of n vertices
--   IsLoop n item                == the item joins a vertex to itself
--   IsEmptyItem n item           == the item puts no edge between two different vertices
--   IsFirstHighValence n items v == v is the first vertex at which the items put more than 63 edges
--   IsDisconnected n items       == no vertex has more than 63 edges, and some two have no chain of edges
--                                   between them
--   IsGraphFault n items fault   == the fault is the first that stands in the items for n vertices: that
--                                   of an item stands where all items before it are right, and that of the
--                                   whole list if all items are
use Rattle.std.specs.Prelude.{◌≡◌, ◌≢◌, ℕ, ◌<◌, ◌≤◌, List, ◌⊎◌}
use Rattle.dg_theory.specs.Multigraph.{IsConnectedTo}
use Rattle.dg_graph.specs.Items.{EdgeItem, AreEdgeItems, AreItemsBefore, HasEdgeItem, edges_listed, valence_listed}
use Rattle.dg_graph.specs.declared.graph.TheConstants.{MAX_VERTICES, MAX_VALENCE}
use Rattle.dg_graph.specs.declared.fault.GraphFault.{GraphFault}
use Rattle.dg_graph.specs.declared.fault.GraphFault.TheVariants.{Size, NoVertex, Loop, Multiplicity, Valence, NotConnected}

abbrev pub IsSize : ℕ → Type 0
IsSize n = (1 ≤ n) × (n ≤ MAX_VERTICES)

abbrev pub JoinsNoVertex : ℕ → EdgeItem → Type 0
JoinsNoVertex n item = (n ≤ item.0) ⊎ (n ≤ item.1)

pub record IsLoop (n : ℕ) (item : EdgeItem) : Type 0 where
  pub vertex : item.0 < n
  pub same : item.0 ≡ item.1

pub record IsEmptyItem (n : ℕ) (item : EdgeItem) : Type 0 where
  pub first : item.0 < n
  pub second : item.1 < n
  pub different : item.0 ≢ item.1
  pub none : item.2 ≡ 0

pub record IsFirstHighValence (n : ℕ) (items : List EdgeItem) (v : ℕ) : Type 0 where
  pub vertex : v < n
  pub high : MAX_VALENCE < valence_listed n items v
  pub least : (u : ℕ) → u < v → valence_listed n items u ≤ MAX_VALENCE

pub record IsDisconnected (n : ℕ) (items : List EdgeItem) : Type 0 where
  pub valences : (v : ℕ) → v < n → valence_listed n items v ≤ MAX_VALENCE
  pub one : ℕ
  pub other : ℕ
  pub one_vertex : one < n
  pub other_vertex : other < n
  pub parted : ¬ IsConnectedTo n (edges_listed items) one other

abbrev pub IsGraphFault : ℕ → List EdgeItem → GraphFault → Type 0
IsGraphFault n items Size = ¬ IsSize n
IsGraphFault n items (NoVertex i) =
    IsSize n × AreItemsBefore n items i × HasEdgeItem items i (JoinsNoVertex n)
IsGraphFault n items (Loop i) = IsSize n × AreItemsBefore n items i × HasEdgeItem items i (IsLoop n)
IsGraphFault n items (Multiplicity i) =
    IsSize n × AreItemsBefore n items i × HasEdgeItem items i (IsEmptyItem n)
IsGraphFault n items (Valence v) = IsSize n × AreEdgeItems n items × IsFirstHighValence n items v
IsGraphFault n items NotConnected = IsSize n × AreEdgeItems n items × IsDisconnected n items
