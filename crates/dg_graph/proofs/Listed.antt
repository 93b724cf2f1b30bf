-- How many edges a list of items puts between two vertices: as many one way as the other (symmetric), none where the
-- list is empty (nil) or no item puts one there (none), and one more item adds its own to those before (more).
-- Right items put none from a vertex to itself (loopless) and none at a number past the vertices (inside), and an item
-- that is right among n vertices is right among more (item-right).
use Rattle.dg_graph.proofs.Common.{◌≡◌, ℕ, suc, ◌+◌, ◌<◌, ◌≤◌, Bool, true, false, ◌||◌, ◌&&◌, ◌==◌, cond, List, [], ◌∷◌, length, get_or, take, slice_get, Some, sum_by, arith, refl, ap, nat_tests, sum_by-cons, sum_by_more, slice_get-get_or, EdgeItem, IsEdgeItem, AreEdgeItems, item_edges}
use Rattle.dg_graph.specs.Items.{edges_listed}

or_turned : (x y : Bool) → (x || y) ≡ (y || x)
or_turned true true = refl
or_turned true false = refl
or_turned false true = refl
or_turned false false = refl

pub item_edges-symmetric : (item : EdgeItem) (u v : ℕ) → item_edges item u v ≡ item_edges item v u
item_edges-symmetric item u v =
    ap (λ (b : Bool). cond b item.2 0) (or_turned ((item.0 == u) && (item.1 == v)) ((item.0 == v) && (item.1 == u)))

pub edges_listed-symmetric : (items : List EdgeItem) (u v : ℕ) → edges_listed items u v ≡ edges_listed items v u
unfolding edges_listed
edges_listed-symmetric items u v = ap (λ (f : EdgeItem → ℕ). sum_by f items) (λ i item. item_edges-symmetric item u v i)

pub edges_listed-nil : (u v : ℕ) → edges_listed [] u v ≡ 0
unfolding edges_listed
edges_listed-nil u v = refl

pub edges_listed-none : (items : List EdgeItem) (u v : ℕ) →
    ((k : ℕ) (item : EdgeItem) → k < length items → slice_get items k ≡ Some item → item_edges item u v ≡ 0) →
    edges_listed items u v ≡ 0
unfolding edges_listed
edges_listed-none [] u v none = refl
edges_listed-none (x ∷ xs) u v none =
    let first : item_edges x u v ≡ 0 = none 0 x (omega arith) refl in
    let rest : edges_listed xs u v ≡ 0 =
    edges_listed-none xs u v (λ k item below at. none (suc k) item (omega arith) at) in
    omega (arith, sum_by-cons (λ item. item_edges item u v) x xs)

pub edges_listed-more : (items : List EdgeItem) (i : ℕ) (d : EdgeItem) (u v : ℕ) → i < length items →
    edges_listed (take (i + 1) items) u v ≡ edges_listed (take i items) u v + item_edges (get_or items i d) u v
unfolding edges_listed
edges_listed-more items i d u v below = sum_by_more (λ item. item_edges item u v) items i d below

pub item-right : (n m : ℕ) (items : List EdgeItem) (i : ℕ) (d : EdgeItem) → n ≤ m → AreEdgeItems n items → i < length items →
    IsEdgeItem m (get_or items i d)
item-right n m items i d wider right below =
    let item = right i (get_or items i d) below (slice_get-get_or items i d below) in
    record { first = omega arith; second = omega arith; different = item.different; edges = item.edges }

put-loopless : (n : ℕ) (item : EdgeItem) (v : ℕ) → IsEdgeItem n item → item_edges item v v ≡ 0
put-loopless n item v right = grind (arith, nat_tests)

put-inside : (n : ℕ) (item : EdgeItem) (u v : ℕ) → IsEdgeItem n item → n ≤ v → item_edges item u v ≡ 0
put-inside n item u v right outside = grind (arith, nat_tests)

pub edges_listed-loopless : (n : ℕ) (items : List EdgeItem) (v : ℕ) → AreEdgeItems n items → edges_listed items v v ≡ 0
edges_listed-loopless n items v right =
    edges_listed-none items v v (λ k item below at. put-loopless n item v (right k item below at))

pub edges_listed-inside : (n : ℕ) (items : List EdgeItem) (u v : ℕ) → AreEdgeItems n items → n ≤ v → edges_listed items u v ≡ 0
edges_listed-inside n items u v right outside =
    edges_listed-none items u v (λ k item below at. put-inside n item u v (right k item below at) outside)
