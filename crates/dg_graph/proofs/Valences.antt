-- The valences that a graph keeps.
--   valence-outside   no edge meets past the size
--   valence-few       at most 63 edges meet, at a vertex and past the size
--   valences_of-at    what is kept at a place
--   valences_of-all   and past the places too
--   filled-more       a list that is filled in one place after another
use Rattle.dg_graph.proofs.Common.{◌≡◌, ℕ, zero, suc, ◌+◌, ◌<◌, ◌≤◌, List, length, set, arith, refl, sym, ◌∙◌, ⊎_elim, slice_index, cases_lt, cases_eq, get_or-set_same, get_or-set_other, get_or_past, get_or-map-range_with_len, nat_sum_below, Multigraph, valence, edges_between, IsGraph}
use Rattle.dg_graph.specs.Valences.{valences_of}

none_below : (n : ℕ) (f : ℕ → ℕ) → ((w : ℕ) → f w ≡ 0) → nat_sum_below n f ≡ 0
none_below zero f none = refl
none_below (suc n) f none =
    let before : nat_sum_below n f ≡ 0 = none_below n f none in
    let last : f n ≡ 0 = none n in
    omega arith

pub valence-outside : (g : Multigraph) (v : ℕ) → IsGraph g → g.size ≤ v → valence g v ≡ 0
valence-outside g v graph outside = none_below g.size (edges_between g v)
    (λ w. graph.multigraph.symmetric v w ∙ graph.multigraph.inside w v outside)

pub valence-few : (g : Multigraph) (v : ℕ) → IsGraph g → valence g v ≤ 63
valence-few g v graph = ⊎_elim
    (λ (inside : v < g.size). graph.valences v inside)
    (λ (outside : g.size ≤ v). omega (arith, valence-outside g v graph outside))
    (cases_lt v g.size)

pub valences_of-at : (g : Multigraph) (v : ℕ) → v < 16 → slice_index (valences_of g) v ≡ valence g v
unfolding valences_of
valences_of-at g v below = get_or-map-range_with_len (valence g) 0 16 v v 0 below (omega arith)

valences_of-length : (g : Multigraph) → length (valences_of g) ≡ 16
unfolding valences_of
valences_of-length g = refl

pub valences_of-all : (g : Multigraph) (v : ℕ) → IsGraph g → slice_index (valences_of g) v ≡ valence g v
valences_of-all g v graph = ⊎_elim
    (λ (below : v < 16). valences_of-at g v below)
    (λ (past : 16 ≤ v).
    get_or_past (valences_of g) v 0 (rw (valences_of-length g) past)
    ∙ sym (valence-outside g v graph (omega (arith, graph.few))))
    (cases_lt v 16)

-- the places of a list below v + 1, where those below v agree with f, and so does a
pub filled-more : (xs : List ℕ) (v a : ℕ) (f : ℕ → ℕ) → v < length xs → a ≡ f v →
    ((w : ℕ) → w < v → slice_index xs w ≡ f w) → (w : ℕ) → w < v + 1 → slice_index (set xs v a) w ≡ f w
filled-more xs v a f within here before w below = ⊎_elim
    (λ (equal : w ≡ v). rw equal (get_or-set_same xs v a 0 within ∙ here))
    (λ (other : w ≡ v → ⊥). get_or-set_other xs v w a 0 other ∙ before w (omega arith))
    (cases_eq w v)
