-- The laws of burning, for a divisor without debt off q.
--   unburnt_by-below   a vertex is in the rest that burning leaves exactly where it is not in the order
--   rest-out           from a vertex as many edges lead out of the rest as into the burnt vertices
--   rest_fires         the rest that burning leaves fires freely
--   never_burns        a vertex of a set that fires freely never burns
--   unburnt_fires      what burning leaves is the greatest set that fires freely
--   greatest_is_one    two greatest sets that fire freely hold the same vertices
--   burnt_reduced      if burning leaves nothing, the divisor is reduced
--   reduced_burnt      if the divisor is reduced, burning leaves nothing
--   burnt_is_reduced   burning leaves nothing exactly where the divisor is reduced
use Rattle.dg_theory.proofs.Common.{if◌then◌else◌, ◌≡◌, ◌≢◌, ℕ, ◌<◌, Bool, true, false, not, List, arith, refl, sym, ap, ◌∙◌, ⊎_elim, nat_lt, ◌≤ℤ◌, ints, by_lt_z, cases_Bool, lt-ltb, ltb-true, and_parts, and_right, not_from_true, not_from_false, not-true, false_from_ne_true, true_from_ne_false, both_ways, Multigraph, edges_between, Amounts, IsEffectiveOff, edges_out, IsReduced, list_contains, edges_into, IsLeastBurningOrder, IsLegalSetFiring, unburnt_by, UnburntIsGreatest, GreatestIsUnique, ReducedIffBurnt}
use Rattle.std.specs.Prelude.{pos}
use Rattle.dg_theory.proofs.TotalLaws.{nat_sum_below-cong}
use Rattle.dg_theory.proofs.SetFiring.{fired-inside, inside-fired, outside-fired}
use Rattle.dg_theory.proofs.BurningOrder.{burnt_of_set, may_burn, q_burns}

pub unburnt_by-below : (g : Multigraph) (l : List ℕ) (v : ℕ) → v < g.size → unburnt_by g l v ≡ not (list_contains l v)
unburnt_by-below g l v below = rw (lt-ltb v g.size below) refl

-- q is not in the rest
unburnt_by-q : (g : Multigraph) (q : ℕ) (D : Amounts) (l : List ℕ) → IsLeastBurningOrder g q D l → unburnt_by g l q ≡ false
unburnt_by-q g q D l order = and_right _ _ (not_from_true _ (q_burns g q D l order))

-- e edges count where b holds, said with the negated test
swapped : (b : Bool) (e : ℕ) → (if not b then 0 else e) ≡ (if b then e else 0)
swapped true e = refl
swapped false e = refl

pub rest-out : (g : Multigraph) (l : List ℕ) (v : ℕ) → edges_out g (unburnt_by g l) v ≡ edges_into g (list_contains l) v
rest-out g l v = nat_sum_below-cong g.size _ _ (λ w below.
    rw (unburnt_by-below g l w below) (swapped (list_contains l w) (edges_between g v w)))

-- a vertex of the rest holds a dollar for each edge that leaves the rest, for it would burn otherwise
rest-holds : (g : Multigraph) (q : ℕ) (D : Amounts) (l : List ℕ) (v : ℕ) → IsLeastBurningOrder g q D l →
    unburnt_by g l v ≡ true → v < g.size → pos (edges_out g (unburnt_by g l) v) ≤ℤ D v
rest-holds g q D l v order unburnt below =
    let not_in : list_contains l v ≡ false =
    not-true (list_contains l v) ((and_parts (nat_lt v g.size) (not (list_contains l v)) unburnt).1) in
    by_lt_z (D v) (pos (edges_into g (list_contains l) v))
    (λ less. absurd (order.last v (record { vertex = below; unburnt = not_in; reached = less })))
    (λ enough. omega (arith, ints, rest-out g l v))

pub rest_fires : (g : Multigraph) (q : ℕ) (D : Amounts) (l : List ℕ) → IsEffectiveOff g q D → IsLeastBurningOrder g q D l →
    IsLegalSetFiring g q D (unburnt_by g l)
rest_fires g q D l solvent order = record {
  vertices = λ v unburnt. ltb-true v g.size ((and_parts (nat_lt v g.size) (not (list_contains l v)) unburnt).0);
  without = unburnt_by-q g q D l order;
  no_debt = λ v below other. ⊎_elim
      (λ (inside : unburnt_by g l v ≡ true). inside-fired g D _ v inside (rest-holds g q D l v order inside below))
      (λ (outside : unburnt_by g l v ≡ false). outside-fired g D _ v outside (solvent v below other))
      (cases_Bool (unburnt_by g l v));
}

pub never_burns : (g : Multigraph) (q : ℕ) (D : Amounts) (l : List ℕ) (T : ℕ → Bool) (v : ℕ) → IsLeastBurningOrder g q D l →
    IsLegalSetFiring g q D T → T v ≡ true → list_contains l v ≡ false
never_burns g q D l T v order free member = false_from_ne_true (list_contains l v) (λ burnt.
    let (u, below, inside, less) =
    burnt_of_set g q D l T v order.begun.first (may_burn g q D l order) free.without burnt member in
    let other : u ≢ q = λ same. both_ways _ free.without (ap T (sym same) ∙ inside) in
    let enough : pos (edges_out g T u) ≤ℤ D u = fired-inside g D T u inside (free.no_debt u below other) in
    absurd (omega (arith, ints)))

pub unburnt_fires : UnburntIsGreatest
unburnt_fires g q D l graph vertex solvent order = record {
  free = rest_fires g q D l solvent order;
  greatest = λ T free v member.
      unburnt_by-below g l v (free.vertices v member) ∙ not_from_false _ (never_burns g q D l T v order free member);
}

pub greatest_is_one : GreatestIsUnique
greatest_is_one g q D S T one other v = ⊎_elim
    (λ (inside : S v ≡ true). inside ∙ sym (other.greatest S one.free v inside))
    (λ (outside : S v ≡ false). outside ∙ sym (false_from_ne_true (T v) (λ member.
    both_ways _ outside (one.greatest T other.free v member))))
    (cases_Bool (S v))

pub burnt_reduced : (g : Multigraph) (q : ℕ) (D : Amounts) (l : List ℕ) → IsEffectiveOff g q D → IsLeastBurningOrder g q D l →
    ((v : ℕ) → v < g.size → list_contains l v ≡ true) → IsReduced g q D
burnt_reduced g q D l solvent order all = record {
  no_debt = solvent;
  none_fires = λ S without u below member. burnt_of_set g q D l S u order.begun.first (may_burn g q D l order) without
      (all u below) member;
}

pub reduced_burnt : (g : Multigraph) (q : ℕ) (D : Amounts) (l : List ℕ) → IsLeastBurningOrder g q D l → IsReduced g q D →
    (v : ℕ) → v < g.size → list_contains l v ≡ true
reduced_burnt g q D l order reduced v below = true_from_ne_false (list_contains l v) (λ missed.
    let rest : unburnt_by g l v ≡ true = unburnt_by-below g l v below ∙ not_from_false _ missed in
    let (w, inside, unburnt, less) = reduced.none_fires (unburnt_by g l) (unburnt_by-q g q D l order) v below rest in
    let enough : pos (edges_out g (unburnt_by g l) w) ≤ℤ D w = rest-holds g q D l w order unburnt inside in
    absurd (omega (arith, ints)))

pub burnt_is_reduced : ReducedIffBurnt
burnt_is_reduced g q D l graph vertex solvent order = (burnt_reduced g q D l solvent order, reduced_burnt g q D l order)
