-- What a call answers.
--   item_of e              == the edge item of three bytes
--   items_of es            == those of a list
--   fault_number f         == the number below 0 for a fault of a graph: its kind, and 16 times the place of the item or vertex
--   RefusesGraph n es x    == x says that there are too many items; or, if there are not, why there is no graph of n vertices
--                             with these edges: its first fault
--   HasGraphWith n es P    == there are not too many items, there is such a graph, and P is true of it
--   RefusesCall n es q x P == x says why there is none; or that there is, but no vertex q of it; or that there are both, but
--                             the arrays have not the lengths that P asks of the graph
--   IsAllOrNone all len    == len is all or 0
--   FitJudge, FitRank, FitTest == the lengths of the arrays fit: `all` is the number of rows times the vertices
use Rattle.std.specs.Prelude.{◌≡◌, ℕ, ℤ, ◌+◌, ◌*◌, ◌<◌, ◌≤◌, ◌⊎◌, List, length, map, min, pos, ◌-ℤ◌}
use Rattle.std.specs.List.{slice_index_or}
use Rattle.dg_graph.specs.Items.{EdgeItem, IsGraphOf}
use Rattle.dg_graph.specs.Faults.{IsGraphFault}
use Rattle.dg_graph.specs.declared.fault.GraphFault.{GraphFault}
use Rattle.dg_graph.specs.declared.fault.GraphFault.TheVariants.{Size, NoVertex, Loop, Multiplicity, Valence, NotConnected}
use Rattle.dg_theory.specs.Multigraph.{Multigraph}

abbrev pub item_of : List ℕ → EdgeItem
item_of e = (slice_index_or e 0 0, slice_index_or e 1 0, slice_index_or e 2 0)

abbrev pub items_of : List (List ℕ) → List EdgeItem
items_of es = map item_of es

abbrev pub number_at : ℕ → ℕ → ℤ
number_at kind place = pos 0 -ℤ pos (kind + 16 * min place 120)

abbrev pub fault_number : GraphFault → ℤ
fault_number Size = pos 0 -ℤ pos 1
fault_number (NoVertex i) = number_at 2 i
fault_number (Loop i) = number_at 3 i
fault_number (Multiplicity i) = number_at 4 i
fault_number (Valence v) = number_at 5 v
fault_number NotConnected = pos 0 -ℤ pos 6

pub record HasFault (n : ℕ) (es : List (List ℕ)) (x : ℤ) : Type 0 where
  pub fault : GraphFault
  pub first : IsGraphFault n (items_of es) fault
  pub number : x ≡ fault_number fault

abbrev pub RefusesGraph : ℕ → List (List ℕ) → ℤ → Type 0
RefusesGraph n es x = ((length es ≤ 120) × HasFault n es x) ⊎ ((x ≡ pos 0 -ℤ pos 9) × (120 < length es))

pub record HasGraphWith (n : ℕ) (es : List (List ℕ)) (P : Multigraph → Type 0) : Type 0 where
  pub few : length es ≤ 120
  pub graph : Multigraph
  pub given : IsGraphOf n (items_of es) graph
  pub answered : P graph

abbrev pub RefusesCall : ℕ → List (List ℕ) → ℕ → ℤ → (Multigraph → Type 0) → Type 0
RefusesCall n es q x P =
    RefusesGraph n es x ⊎ ((x ≡ pos 0 -ℤ pos 7) × HasGraphWith n es (λ g. g.size ≤ q))
    ⊎ ((x ≡ pos 0 -ℤ pos 8) × HasGraphWith n es (λ g. (q < g.size) × (¬ P g)))

abbrev pub IsAllOrNone : ℕ → ℕ → Type 0
IsAllOrNone all len = (len ≡ all) ⊎ (len ≡ 0)

pub record FitJudge (all amounts scripts reduced orders : ℕ) : Type 0 where
  pub has_amounts : amounts ≡ all
  pub has_scripts : IsAllOrNone all scripts
  pub has_reduced : IsAllOrNone all reduced
  pub has_orders : IsAllOrNone all orders

pub record FitRank (all rows amounts ranks duals : ℕ) : Type 0 where
  pub has_amounts : amounts ≡ all
  pub has_ranks : ranks ≡ rows
  pub has_duals : IsAllOrNone rows duals

pub record FitTest (all amounts losses : ℕ) : Type 0 where
  pub has_amounts : amounts ≡ all
  pub has_losses : IsAllOrNone all losses
