-- The order in which vertices burn.
--   list_any-among   a list with an element v that passes a test has some element that passes it
--   among_first      the first element of a list is in it
--   first_where      the first element of a list that passes a test, and its place
--   into-le-out      as many edges at most lead into one set as lead out of another, if the two sets are disjoint
--   burnt_of_set     if vertices burn, q first, and one of them is in a set without q, some vertex of the set holds
--                    fewer dollars than edges lead from it out of the set: the first one of the set that burns
--   may_burn         in the order in which vertices burn, each may burn when those before it have
--   q_burns          q burns
use Rattle.dg_theory.proofs.Common.{if◌then◌else◌, ◌≡◌, ℕ, zero, suc, ◌<◌, ◌≤◌, ◌==◌, Bool, true, false, List, [], ◌∷◌, take, arith, refl, sym, ap, ◌∙◌, ⊎_elim, slice_get, Some, ◌<ℤ◌, list_any, ints, cases_Bool, eqb-true, eq-eqb, or_cases, or_left, or_right, or_from, false_from_ne_true, both_ways, Multigraph, edges_between, Amounts, edges_out, list_contains, edges_into, MayBurn, IsLeastBurningOrder}
use Rattle.std.specs.Prelude.{pos}
use Rattle.dg_theory.proofs.TotalLaws.{nat_sum_below-le}

pub list_any-among : (T : ℕ → Bool) (l : List ℕ) (v : ℕ) → list_contains l v ≡ true → T v ≡ true → list_any T l ≡ true
list_any-among T [] v here passes = here
list_any-among T (x ∷ l) v here passes =
    ⊎_elim
    (λ (first : (x == v) ≡ true). or_left _ _ (ap T (eqb-true x v first) ∙ passes))
    (λ (later : list_contains l v ≡ true). or_right _ _ (list_any-among T l v later passes))
    (or_cases _ _ here)

pub among_first : (l : List ℕ) (v : ℕ) → slice_get l 0 ≡ Some v → list_contains l v ≡ true
among_first [] v first = cc
among_first (x ∷ l) v first = or_left _ _ (eq-eqb x v (cc))

pub first_where : (T : ℕ → Bool) (l : List ℕ) → list_any T l ≡ true →
    (i : ℕ) × (v : ℕ) × (slice_get l i ≡ Some v) × (T v ≡ true) × (list_any T (take i l) ≡ false)
first_where T [] some = absurd (both_ways _ refl some)
first_where T (x ∷ l) some =
    ⊎_elim
    (λ (now : T x ≡ true). (zero, x, refl, now, refl))
    (λ (no : T x ≡ false).
    let rest : list_any T l ≡ true = rw no at some in
    let (i, v, place, passes, none) = first_where T l rest in
    (suc i, v, place, passes, or_from _ _ no none))
    (cases_Bool (T x))

-- edges that count where b holds, and edges that count where c fails
into-le-out-once : (b c : Bool) (e : ℕ) → (b ≡ true → c ≡ false) → (if b then e else 0) ≤ (if c then 0 else e)
into-le-out-once true true e apart = absurd (both_ways _ (apart refl) refl)
into-le-out-once true false e apart = omega arith
into-le-out-once false c e apart = omega arith

pub into-le-out : (g : Multigraph) (B T : ℕ → Bool) (v : ℕ) → ((w : ℕ) → B w ≡ true → T w ≡ false) →
    edges_into g B v ≤ edges_out g T v
into-le-out g B T v apart =
    nat_sum_below-le g.size _ _ (λ w below. into-le-out-once (B w) (T w) (edges_between g v w) (apart w))

-- the first vertex of the set that burns does so at the place i, and no vertex of the set burns before
burnt_at : (g : Multigraph) (q : ℕ) (D : Amounts) (l : List ℕ) (T : ℕ → Bool) → slice_get l 0 ≡ Some q →
    ((i v : ℕ) → slice_get l (suc i) ≡ Some v → MayBurn g D (list_contains (take (suc i) l)) v) → T q ≡ false →
    (i u : ℕ) → slice_get l i ≡ Some u → T u ≡ true → list_any T (take i l) ≡ false →
    (u < g.size) × (D u <ℤ pos (edges_out g T u))
burnt_at g q D l T first next without zero u place member earlier =
    let same : u ≡ q = cc in
    absurd (both_ways _ without (ap T (sym same) ∙ member))
burnt_at g q D l T first next without (suc i) u place member earlier =
    let burns : MayBurn g D (list_contains (take (suc i) l)) u = next i u place in
    let out : edges_into g (list_contains (take (suc i) l)) u ≤ edges_out g T u = into-le-out g _ T u (λ w burnt.
    false_from_ne_true (T w) (λ yes. both_ways _ earlier (list_any-among T (take (suc i) l) w burnt yes))) in
    let reached : D u <ℤ pos (edges_into g (list_contains (take (suc i) l)) u) = burns.reached in
    (burns.vertex, omega (arith, ints))

pub burnt_of_set : (g : Multigraph) (q : ℕ) (D : Amounts) (l : List ℕ) (T : ℕ → Bool) (v : ℕ) → slice_get l 0 ≡ Some q →
    ((i v : ℕ) → slice_get l (suc i) ≡ Some v → MayBurn g D (list_contains (take (suc i) l)) v) → T q ≡ false →
    list_contains l v ≡ true → T v ≡ true → (u : ℕ) × (u < g.size) × (T u ≡ true) × (D u <ℤ pos (edges_out g T u))
burnt_of_set g q D l T v first next without burnt member =
    let (i, u, place, passes, none) = first_where T l (list_any-among T l v burnt member) in
    let (below, less) = burnt_at g q D l T first next without i u place passes none in
    (u, below, passes, less)

pub may_burn : (g : Multigraph) (q : ℕ) (D : Amounts) (l : List ℕ) → IsLeastBurningOrder g q D l →
    (i v : ℕ) → slice_get l (suc i) ≡ Some v → MayBurn g D (list_contains (take (suc i) l)) v
may_burn g q D l order i v place = (order.begun.next i v place).may

pub q_burns : (g : Multigraph) (q : ℕ) (D : Amounts) (l : List ℕ) → IsLeastBurningOrder g q D l → list_contains l q ≡ true
q_burns g q D l order = among_first l q order.begun.first
