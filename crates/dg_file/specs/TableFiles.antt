-- What a table file describes: the start of a game, and the names of its vertices.
--   vertex_or_size names name        == the vertex of that name, or the number of vertices, which is none of
--                                       them
--   edge_item names edge             == the edge as an item of a graph
--   edge_items content               == the edges of the content as items of a graph
--   ContentDescribes content o names == the content describes the start o with these names
--   IsTableFile bytes o names        == the bytes are a table file, and describe the start o with these names
use Rattle.std.specs.Prelude.{◌≡◌, ℕ, List, length, map, Some, unwrap_or}
use Rattle.dg_chips.specs.Starts.{StartData}
use Rattle.dg_chips.specs.Vector.{HoldsNumbers, IsDivisorVector}
use Rattle.dg_graph.specs.Items.{EdgeItem, IsGraphOf}
use Rattle.dg_tokens.specs.Names.{AreNames, place_of}
use Rattle.serde_json.specs.Data.{Data}
use Rattle.dg_file.specs.Content.{FileEdge, Content, ReadsJson, IsContent}

abbrev pub vertex_or_size : List (List ℕ) → List ℕ → ℕ
vertex_or_size names name = unwrap_or (place_of names name) (length names)

abbrev pub edge_item : List (List ℕ) → FileEdge → EdgeItem
edge_item names edge = (vertex_or_size names edge.one, vertex_or_size names edge.other, edge.count)

abbrev pub edge_items : Content → List EdgeItem
edge_items content = map (edge_item content.vertices) content.edges

pub record ContentDescribes (content : Content) (o : StartData) (names : List (List ℕ)) : Type 0 where
  pub given : names ≡ content.vertices
  pub are_names : AreNames names
  pub graph : IsGraphOf (length names) (edge_items content) o.graph
  pub size : o.divisor.size ≡ length names
  pub amounts : HoldsNumbers content.amounts o.divisor
  pub within : IsDivisorVector o.divisor
  pub vertex : place_of names content.q ≡ Some o.q

pub record IsTableFile (bytes : List ℕ) (o : StartData) (names : List (List ℕ)) : Type 0 where
  pub value : Data
  pub reads : ReadsJson bytes value
  pub content : Content
  pub says : IsContent value content
  pub describes : ContentDescribes content o names
