-- A content has one fault at most, and none where it is a table.
--   chip-one      amounts have one fault
--   chip-none     and none if they are those of a divisor
--   table-one     one fault
--   table-none    no fault where there is a table
use Rattle.dg_file.proofs.Common.{◌≡◌, ℕ, ◌<◌, ℤ, List, length, refl, sym, ap, ◌∙◌, arith, IsSize, GraphFault, Size, NoVertex, Loop, Multiplicity, Valence, NotConnected, StartData, Vector, at, HoldsNumbers, IsDivisorVector, IsFirstPast, IsChipFault, ChipFault, Length, Range, Content, AreNames, edge_items, ContentDescribes, HasGraphFault, IsNameFault, IsTwiceFault, GivesGraph, GivesDivisor, IsContentFault, FileFault, Graph, Name, Twice, Chip, NoQ}
use Rattle.dg_file.proofs.OneContent.{none-found, first-once}
use Rattle.dg_file.proofs.OneGraph.{graph-one, graph-none}
use Rattle.dg_file.proofs.OneName.{stops-name, stops-twice, stops-one, name-or-twice}

module _ (n : ℕ) (xs : List ℤ) where
  past-one : (limit u v : ℕ) → IsFirstPast limit xs u → IsFirstPast limit xs v → u ≡ v
  past-one limit u v a b = first-once u v (λ less. let h = b.least u less in omega (arith, a.past))
      (λ more. let h = a.least v more in omega (arith, b.past))

  pub chip-one : (f h : ChipFault) → IsChipFault n xs f → IsChipFault n xs h → f ≡ h
  chip-one Length Length a b = refl
  chip-one Length (Range v) a b = absurd (a b.0)
  chip-one (Range v) Length a b = absurd (b a.0)
  chip-one (Range u) (Range v) a b = ap Range (past-one _ u v a.1 b.1)

  pub chip-none : (x : Vector) → x.size ≡ n → HoldsNumbers xs x → IsDivisorVector x → (f : ChipFault)
      → IsChipFault n xs f → ⊥
  chip-none x size holds within Length fault = fault (sym holds.size ∙ size)
  chip-none x size holds within (Range v) fault =
      let below : v < length xs = fault.1.place in
      let few = within.within v (let s = holds.size in omega arith) in
      let few_given = rw (holds.numbers v below) at few in
      omega (arith, few_given, fault.1.past)

names-of : (content : Content) (f : GraphFault) → HasGraphFault content f → IsSize (length content.vertices)
    → AreNames content.vertices
names-of content Size fault size = absurd (fault.first size)
names-of content (NoVertex i) fault size = fault.names (λ e. cc)
names-of content (Loop i) fault size = fault.names (λ e. cc)
names-of content (Multiplicity i) fault size = fault.names (λ e. cc)
names-of content (Valence v) fault size = fault.names (λ e. cc)
names-of content NotConnected fault size = fault.names (λ e. cc)

module _ (content : Content) where
  graph-given : (f : GraphFault) → HasGraphFault content f → GivesGraph content → ⊥
  graph-given f fault gives =
      graph-none (length content.vertices) (edge_items content) gives.graph gives.given f fault.first

  chip-given : (f : ChipFault) → IsChipFault (length content.vertices) content.amounts f → GivesDivisor content → ⊥
  chip-given f fault gives =
      chip-none (length content.vertices) content.amounts gives.divisor gives.size gives.amounts gives.within f fault

  graph-name : (f : GraphFault) (i : ℕ) → HasGraphFault content f → IsNameFault content.vertices i → ⊥
  graph-name f i a b = (stops-name content.vertices i b).whole (names-of content f a b.size)

  graph-twice : (f : GraphFault) (i : ℕ) → HasGraphFault content f → IsTwiceFault content.vertices i → ⊥
  graph-twice f i a b = (stops-twice content.vertices i b).whole (names-of content f a b.size)

  name-given : (i : ℕ) → IsNameFault content.vertices i → GivesGraph content → ⊥
  name-given i a gives = (stops-name content.vertices i a).whole gives.names

  twice-given : (i : ℕ) → IsTwiceFault content.vertices i → GivesGraph content → ⊥
  twice-given i a gives = (stops-twice content.vertices i a).whole gives.names

  name-twice : (i j : ℕ) → IsNameFault content.vertices i → IsTwiceFault content.vertices j → ⊥
  name-twice i j a b =
      name-or-twice content.vertices i j
      (stops-one content.vertices i j (stops-name content.vertices i a) (stops-twice content.vertices j b)) a b

  pub table-one : (f h : FileFault) → IsContentFault content f → IsContentFault content h → f ≡ h
  table-one (Graph f) (Graph h) a b =
      ap Graph (graph-one (length content.vertices) (edge_items content) f h a.first b.first)
  table-one (Graph f) (Name j) a b = absurd (graph-name f j a b)
  table-one (Graph f) (Twice j) a b = absurd (graph-twice f j a b)
  table-one (Graph f) (Chip h) a b = absurd (graph-given f a b.0)
  table-one (Graph f) NoQ a b = absurd (graph-given f a b.0)
  table-one (Name i) (Graph h) a b = absurd (graph-name h i b a)
  table-one (Name i) (Name j) a b =
      ap Name (stops-one content.vertices i j (stops-name content.vertices i a) (stops-name content.vertices j b))
  table-one (Name i) (Twice j) a b = absurd (name-twice i j a b)
  table-one (Name i) (Chip h) a b = absurd (name-given i a b.0)
  table-one (Name i) NoQ a b = absurd (name-given i a b.0)
  table-one (Twice i) (Graph h) a b = absurd (graph-twice h i b a)
  table-one (Twice i) (Name j) a b = absurd (name-twice j i b a)
  table-one (Twice i) (Twice j) a b =
      ap Twice (stops-one content.vertices i j (stops-twice content.vertices i a) (stops-twice content.vertices j b))
  table-one (Twice i) (Chip h) a b = absurd (twice-given i a b.0)
  table-one (Twice i) NoQ a b = absurd (twice-given i a b.0)
  table-one (Chip f) (Graph h) a b = absurd (graph-given h b a.0)
  table-one (Chip f) (Name j) a b = absurd (name-given j b a.0)
  table-one (Chip f) (Twice j) a b = absurd (twice-given j b a.0)
  table-one (Chip f) (Chip h) a b = ap Chip (chip-one (length content.vertices) content.amounts f h a.1 b.1)
  table-one (Chip f) NoQ a b = absurd (chip-given f a.1 b.1)
  table-one NoQ (Graph h) a b = absurd (graph-given h b a.0)
  table-one NoQ (Name j) a b = absurd (name-given j b a.0)
  table-one NoQ (Twice j) a b = absurd (twice-given j b a.0)
  table-one NoQ (Chip h) a b = absurd (chip-given h b.1 a.1)
  table-one NoQ NoQ a b = refl
  table-one (Graph f) h a b = absurd b
  table-one (Name i) h a b = absurd b
  table-one (Twice i) h a b = absurd b
  table-one (Chip f) h a b = absurd b
  table-one NoQ h a b = absurd b
  table-one f h a b = absurd a

  gives-graph : (o : StartData) (names : List (List ℕ)) → ContentDescribes content o names → GivesGraph content
  gives-graph o names table = record {
    names = rw table.given at table.are_names;
    graph = o.graph;
    given = rw table.given at table.graph;
  }

  gives-divisor : (o : StartData) (names : List (List ℕ)) → ContentDescribes content o names → GivesDivisor content
  gives-divisor o names table = record {
    divisor = o.divisor;
    size = table.size ∙ ap length table.given;
    amounts = table.amounts;
    within = table.within;
  }

  pub table-none : (o : StartData) (names : List (List ℕ)) → ContentDescribes content o names → (f : FileFault)
      → IsContentFault content f → ⊥
  table-none o names table (Graph f) fault = graph-given f fault (gives-graph o names table)
  table-none o names table (Name i) fault = name-given i fault (gives-graph o names table)
  table-none o names table (Twice i) fault = twice-given i fault (gives-graph o names table)
  table-none o names table (Chip f) fault = chip-given f fault.1 (gives-divisor o names table)
  table-none o names table NoQ fault = none-found _ o.q (rw table.given at table.vertex) fault.2
  table-none o names table f fault = fault
