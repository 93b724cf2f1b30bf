-- A list of items has one fault at most, and none where it gives a graph.
--   graph-one     one fault
--   graph-none    no fault where there is a graph
use Rattle.dg_file.proofs.Common.{◌≡◌, ℕ, ◌<◌, ◌≤◌, List, ⊎_elim, refl, ap, arith, slice_get, slice_get_within, Multigraph, edges_between, nat_sum_below, IsConnectedTo-cong, nat_sum_below-cong, EdgeItem, IsEdgeItem, AreEdgeItems, AreItemsBefore, HasEdgeItem, IsGraphOf, edges_listed, valence_listed, JoinsNoVertex, IsLoop, IsEmptyItem, IsFirstHighValence, IsDisconnected, IsGraphFault, GraphFault, Size, NoVertex, Loop, Multiplicity, Valence, NotConnected}
use Rattle.dg_file.proofs.OneContent.{found-once, first-once}

module _ (n : ℕ) (wrong : EdgeItem) where
  lost : JoinsNoVertex n wrong → ¬ IsEdgeItem n wrong
  lost none right =
      ⊎_elim (λ (h : n ≤ wrong.0). omega (arith, right.first)) (λ (h : n ≤ wrong.1). omega (arith, right.second)) none

  looped : IsLoop n wrong → ¬ IsEdgeItem n wrong
  looped loop right = right.different loop.same

  empty : IsEmptyItem n wrong → ¬ IsEdgeItem n wrong
  empty none right = omega (arith, right.edges, none.none)

  lost-looped : JoinsNoVertex n wrong → IsLoop n wrong → ⊥
  lost-looped none loop =
      ⊎_elim (λ (h : n ≤ wrong.0). omega (arith, loop.vertex))
      (λ (h : n ≤ wrong.1). omega (arith, loop.vertex, loop.same)) none

  lost-empty : JoinsNoVertex n wrong → IsEmptyItem n wrong → ⊥
  lost-empty none edge =
      ⊎_elim (λ (h : n ≤ wrong.0). omega (arith, edge.first)) (λ (h : n ≤ wrong.1). omega (arith, edge.second)) none

  looped-empty : IsLoop n wrong → IsEmptyItem n wrong → ⊥
  looped-empty loop edge = edge.different loop.same

module _ (n : ℕ) (items : List EdgeItem) where
  wrong-before : (i j : ℕ) (P : EdgeItem → Type 0) → ((item : EdgeItem) → P item → ¬ IsEdgeItem n item)
      → HasEdgeItem items i P
      → AreItemsBefore n items j → i < j → ⊥
  wrong-before i j P wrong (item, there, is) right before = wrong item is (right i item before there)

  wrong-none : (i : ℕ) (P : EdgeItem → Type 0) → ((item : EdgeItem) → P item → ¬ IsEdgeItem n item) → HasEdgeItem items i P
      → AreEdgeItems n items → ⊥
  wrong-none i P wrong (item, there, is) right =
      wrong item is (right i item (slice_get_within items i item there) there)

  wrong-one : (i j : ℕ) (P Q : EdgeItem → Type 0) → ((item : EdgeItem) → P item → ¬ IsEdgeItem n item)
      → ((item : EdgeItem) → Q item → ¬ IsEdgeItem n item) → AreItemsBefore n items i → AreItemsBefore n items j
      → HasEdgeItem items i P → HasEdgeItem items j Q → i ≡ j
  wrong-one i j P Q one other right_i right_j a b =
      first-once i j (wrong-before i j P one a right_j) (wrong-before j i Q other b right_i)

  wrong-twice : (i j : ℕ) (P Q : EdgeItem → Type 0) → ((item : EdgeItem) → P item → ¬ IsEdgeItem n item)
      → ((item : EdgeItem) → Q item → ¬ IsEdgeItem n item) → ((item : EdgeItem) → P item → Q item → ⊥)
      → AreItemsBefore n items i → AreItemsBefore n items j → HasEdgeItem items i P → HasEdgeItem items j Q → ⊥
  wrong-twice i j P Q one other both right_i right_j a b =
      let same : i ≡ j = wrong-one i j P Q one other right_i right_j a b in
      let item : a.0 ≡ b.0 = found-once (slice_get items j) a.0 b.0 (rw same at a.1) b.1 in
      both b.0 (rw item at a.2) b.2

  lost-loop : (i j : ℕ) → IsGraphFault n items (NoVertex i) → IsGraphFault n items (Loop j) → ⊥
  lost-loop i j a b = wrong-twice i j (JoinsNoVertex n) (IsLoop n) (lost n) (looped n) (lost-looped n) a.1 b.1 a.2 b.2

  lost-none : (i j : ℕ) → IsGraphFault n items (NoVertex i) → IsGraphFault n items (Multiplicity j) → ⊥
  lost-none i j a b =
      wrong-twice i j (JoinsNoVertex n) (IsEmptyItem n) (lost n) (empty n) (lost-empty n) a.1 b.1 a.2 b.2

  loop-none : (i j : ℕ) → IsGraphFault n items (Loop i) → IsGraphFault n items (Multiplicity j) → ⊥
  loop-none i j a b = wrong-twice i j (IsLoop n) (IsEmptyItem n) (looped n) (empty n) (looped-empty n) a.1 b.1 a.2 b.2

  lost-right : (i : ℕ) → IsGraphFault n items (NoVertex i) → AreEdgeItems n items → ⊥
  lost-right i a = wrong-none i (JoinsNoVertex n) (lost n) a.2

  loop-right : (i : ℕ) → IsGraphFault n items (Loop i) → AreEdgeItems n items → ⊥
  loop-right i a = wrong-none i (IsLoop n) (looped n) a.2

  none-right : (i : ℕ) → IsGraphFault n items (Multiplicity i) → AreEdgeItems n items → ⊥
  none-right i a = wrong-none i (IsEmptyItem n) (empty n) a.2

  high-one : (u v : ℕ) → IsFirstHighValence n items u → IsFirstHighValence n items v → u ≡ v
  high-one u v a b = first-once u v (λ less. let h = b.least u less in omega (arith, a.high))
      (λ more. let h = a.least v more in omega (arith, b.high))

  high-parted : (v : ℕ) → IsFirstHighValence n items v → IsDisconnected n items → ⊥
  high-parted v a b = let h = b.valences v a.vertex in omega (arith, a.high)

  pub graph-one : (f h : GraphFault) → IsGraphFault n items f → IsGraphFault n items h → f ≡ h
  graph-one Size Size a b = refl
  graph-one Size (NoVertex j) a b = absurd (a b.0)
  graph-one Size (Loop j) a b = absurd (a b.0)
  graph-one Size (Multiplicity j) a b = absurd (a b.0)
  graph-one Size (Valence v) a b = absurd (a b.0)
  graph-one Size NotConnected a b = absurd (a b.0)
  graph-one (NoVertex i) Size a b = absurd (b a.0)
  graph-one (NoVertex i) (NoVertex j) a b =
      ap NoVertex (wrong-one i j (JoinsNoVertex n) (JoinsNoVertex n) (lost n) (lost n) a.1 b.1 a.2 b.2)
  graph-one (NoVertex i) (Loop j) a b = absurd (lost-loop i j a b)
  graph-one (NoVertex i) (Multiplicity j) a b = absurd (lost-none i j a b)
  graph-one (NoVertex i) (Valence v) a b = absurd (lost-right i a b.1)
  graph-one (NoVertex i) NotConnected a b = absurd (lost-right i a b.1)
  graph-one (Loop i) Size a b = absurd (b a.0)
  graph-one (Loop i) (NoVertex j) a b = absurd (lost-loop j i b a)
  graph-one (Loop i) (Loop j) a b = ap Loop (wrong-one i j (IsLoop n) (IsLoop n) (looped n) (looped n) a.1 b.1 a.2 b.2)
  graph-one (Loop i) (Multiplicity j) a b = absurd (loop-none i j a b)
  graph-one (Loop i) (Valence v) a b = absurd (loop-right i a b.1)
  graph-one (Loop i) NotConnected a b = absurd (loop-right i a b.1)
  graph-one (Multiplicity i) Size a b = absurd (b a.0)
  graph-one (Multiplicity i) (NoVertex j) a b = absurd (lost-none j i b a)
  graph-one (Multiplicity i) (Loop j) a b = absurd (loop-none j i b a)
  graph-one (Multiplicity i) (Multiplicity j) a b =
      ap Multiplicity (wrong-one i j (IsEmptyItem n) (IsEmptyItem n) (empty n) (empty n) a.1 b.1 a.2 b.2)
  graph-one (Multiplicity i) (Valence v) a b = absurd (none-right i a b.1)
  graph-one (Multiplicity i) NotConnected a b = absurd (none-right i a b.1)
  graph-one (Valence u) Size a b = absurd (b a.0)
  graph-one (Valence u) (NoVertex j) a b = absurd (lost-right j b a.1)
  graph-one (Valence u) (Loop j) a b = absurd (loop-right j b a.1)
  graph-one (Valence u) (Multiplicity j) a b = absurd (none-right j b a.1)
  graph-one (Valence u) (Valence v) a b = ap Valence (high-one u v a.2 b.2)
  graph-one (Valence u) NotConnected a b = absurd (high-parted u a.2 b.2)
  graph-one NotConnected Size a b = absurd (b a.0)
  graph-one NotConnected (NoVertex j) a b = absurd (lost-right j b a.1)
  graph-one NotConnected (Loop j) a b = absurd (loop-right j b a.1)
  graph-one NotConnected (Multiplicity j) a b = absurd (none-right j b a.1)
  graph-one NotConnected (Valence v) a b = absurd (high-parted v b.2 a.2)
  graph-one NotConnected NotConnected a b = refl

  module _ (g : Multigraph) (given : IsGraphOf n items g) where
    low : (v : ℕ) → IsFirstHighValence n items v → ⊥
    low v fault =
        let few = given.graph.valences v (let s = given.size in omega (arith, fault.vertex)) in
        let same : nat_sum_below n (edges_between g v) ≡ valence_listed n items v =
        nat_sum_below-cong n (edges_between g v) (edges_listed items v) (λ w below. given.edges v w) in
        let size : nat_sum_below g.size (edges_between g v) ≡ nat_sum_below n (edges_between g v) =
        ap (λ m. nat_sum_below m (edges_between g v)) given.size in
        omega (arith, few, size, same, fault.high)

    joined : IsDisconnected n items → ⊥
    joined fault =
        let chain = given.graph.multigraph.connected fault.one fault.other
        (omega (arith, given.size, fault.one_vertex)) (omega (arith, given.size, fault.other_vertex)) in
        fault.parted (IsConnectedTo-cong (λ a b. given.edges a b) (rw given.size at chain))

    pub graph-none : (f : GraphFault) → IsGraphFault n items f → ⊥
    graph-none Size fault =
        fault (omega (arith, given.size, given.graph.some), omega (arith, given.size, given.graph.few))
    graph-none (NoVertex i) fault = lost-right i fault given.right
    graph-none (Loop i) fault = loop-right i fault given.right
    graph-none (Multiplicity i) fault = none-right i fault given.right
    graph-none (Valence v) fault = low v fault.2
    graph-none NotConnected fault = joined fault.2
