-- Why bytes are refused as a table file: each case says that all that is judged before it is good.
--   IsEdgeFault value i            == the value is an array, and its item i is the first that is no edge
--   IsPartFault parts shape     == the first of the four parts that has another shape than it should
--   IsShapeFault value shape       == the value has not the four parts, or the first of them that has another
--                                     shape
--   HasName names i P          == there is a name i, and it is P
--   IsNameFault names i        == the name i is the first that is no name or stood before, and it is no
--                                     name
--   IsTwiceFault names i       == the name i is the first that is no name or stood before, and it stood
--                                     before
--   HasGraphFault content fault == the names are names, unless their number is at fault, and the fault is
--                                     the first of the graph
--   GivesGraph content         == the names are names, and the vertices and edges give a graph
--   GivesDivisor content       == the amounts are those of a divisor, one for each name
--   IsContentFault content fault == the first fault of the content
--   HasContentFault bytes fault == the bytes say a content, and that is its first fault
--   IsFileFault bytes fault   == the first fault of the bytes; of want of memory nothing is said
use Rattle.std.specs.Prelude.{◌≡◌, ◌≢◌, ℕ, ◌<◌, List, length, take, slice_get, Some, None, IsSome, IsTrue, ⊤}
use Rattle.dg_chips.specs.Divisors.{IsChipFault}
use Rattle.dg_chips.specs.Vector.{Vector, HoldsNumbers, IsDivisorVector}
use Rattle.dg_graph.specs.Faults.{IsSize, IsGraphFault}
use Rattle.dg_graph.specs.Items.{IsGraphOf}
use Rattle.dg_graph.specs.declared.fault.GraphFault.{GraphFault}
use Rattle.dg_graph.specs.declared.fault.GraphFault.TheVariants.{Size}
use Rattle.dg_theory.specs.Multigraph.{Multigraph}
use Rattle.dg_tokens.specs.Names.{IsName, AreNames, names_contain, place_of}
use Rattle.serde_json.specs.Data.{Data, Items}
use Rattle.serde_json.specs.Find.{as_array, as_str, get_item}
use Rattle.dg_file.specs.Content.{Content, MemberValues, ReadsJson, IsNotJson, HasMemberValues, texts_in_json, edge_in_json, edges_in_json, numbers_in_json, IsContent}
use Rattle.dg_file.specs.TableFiles.{edge_items}
use Rattle.dg_file.specs.declared.fault.Shape.{Shape}
use Rattle.dg_file.specs.declared.fault.Shape.TheVariants.{Top, Vertices, Edges, Edge, Amounts, Q}
use Rattle.dg_file.specs.declared.fault.FileFault.{FileFault}
use Rattle.dg_file.specs.declared.fault.FileFault.TheVariants.{Json, Shape as OfShape, Graph, Name, Twice, Chip, NoQ, OutOfMemory}

pub record IsEdgeFault (value : Data) (i : ℕ) : Type 0 where
  pub items : Items
  pub array : as_array value ≡ Some items
  pub before : (k : ℕ) → k < i → (d : Data) → get_item k items ≡ Some d → IsSome (edge_in_json d)
  pub item : Data
  pub there : get_item i items ≡ Some item
  pub no_edge : edge_in_json item ≡ None

abbrev pub IsPartFault : MemberValues → Shape → Type 0
IsPartFault parts Top = ⊥
IsPartFault parts Vertices = texts_in_json parts.vertices ≡ None
IsPartFault parts Edges = IsSome (texts_in_json parts.vertices) × (as_array parts.edges ≡ None)
IsPartFault parts (Edge i) = IsSome (texts_in_json parts.vertices) × IsEdgeFault parts.edges i
IsPartFault parts Amounts =
    IsSome (texts_in_json parts.vertices) × IsSome (edges_in_json parts.edges)
    × (numbers_in_json parts.amounts ≡ None)
IsPartFault parts Q =
    IsSome (texts_in_json parts.vertices) × IsSome (edges_in_json parts.edges)
    × IsSome (numbers_in_json parts.amounts) × (as_str parts.q ≡ None)

abbrev pub IsShapeFault : Data → Shape → Type 0
IsShapeFault value Top = (parts : MemberValues) → ¬ HasMemberValues value parts
IsShapeFault value shape = (parts : MemberValues) × HasMemberValues value parts × IsPartFault parts shape

abbrev pub HasName : List (List ℕ) → ℕ → (List ℕ → Type 0) → Type 0
HasName names i P = (name : List ℕ) × (slice_get names i ≡ Some name) × P name

pub record IsNameFault (names : List (List ℕ)) (i : ℕ) : Type 0 where
  pub size : IsSize (length names)
  pub before : AreNames (take i names)
  pub refused : HasName names i (λ name. ¬ IsName name)

pub record IsTwiceFault (names : List (List ℕ)) (i : ℕ) : Type 0 where
  pub size : IsSize (length names)
  pub before : AreNames (take i names)
  pub refused : HasName names i (λ name. IsName name × IsTrue (names_contain (take i names) name))

pub record HasGraphFault (content : Content) (fault : GraphFault) : Type 0 where
  pub names : fault ≢ Size → AreNames content.vertices
  pub first : IsGraphFault (length content.vertices) (edge_items content) fault

pub record GivesGraph (content : Content) : Type 0 where
  pub names : AreNames content.vertices
  pub graph : Multigraph
  pub given : IsGraphOf (length content.vertices) (edge_items content) graph

pub record GivesDivisor (content : Content) : Type 0 where
  pub divisor : Vector
  pub size : divisor.size ≡ length content.vertices
  pub amounts : HoldsNumbers content.amounts divisor
  pub within : IsDivisorVector divisor

abbrev pub IsContentFault : Content → FileFault → Type 0
IsContentFault content Json = ⊥
IsContentFault content (OfShape shape) = ⊥
IsContentFault content (Graph fault) = HasGraphFault content fault
IsContentFault content (Name i) = IsNameFault content.vertices i
IsContentFault content (Twice i) = IsTwiceFault content.vertices i
IsContentFault content (Chip fault) =
    GivesGraph content × IsChipFault (length content.vertices) content.amounts fault
IsContentFault content NoQ =
    GivesGraph content × GivesDivisor content × (place_of content.vertices content.q ≡ None)
IsContentFault content OutOfMemory = ⊥

pub record HasContentFault (bytes : List ℕ) (fault : FileFault) : Type 0 where
  pub value : Data
  pub reads : ReadsJson bytes value
  pub content : Content
  pub says : IsContent value content
  pub refused : IsContentFault content fault

abbrev pub IsFileFault : List ℕ → FileFault → Type 0
IsFileFault bytes Json = IsNotJson bytes
IsFileFault bytes (OfShape shape) = (value : Data) × ReadsJson bytes value × IsShapeFault value shape
IsFileFault bytes OutOfMemory = ⊤
IsFileFault bytes fault = HasContentFault bytes fault
