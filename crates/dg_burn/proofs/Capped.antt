-- Amounts that are capped burn as the amounts do: no vertex has more than 63 edges.
--   capped-less    capped and not, an amount without debt is below the same numbers up to 63
--   same-may       who may burn is the same, where q burns
--   same-order     so the order is the same
use Rattle.dg_burn.proofs.Common.{◌≡◌, ℕ, suc, ◌<◌, ◌≤◌, Bool, true, false, List, [], ◌∷◌, take, arith, refl, ap, ◌∙◌, ◌↔◌, ℤ, negsuc, slice_get, Some, ◌<ℤ◌, ◌≤ℤ◌, pos, both_ways, eq-eqb, ints, Multigraph, Amounts, IsEffectiveOff, list_contains, edges_into, MayBurn, BurnsNext, IsLeastBurningOrder, IsGraph, list_amounts, capped, AreCapped}
use Rattle.dg_theory.proofs.BurningOrder.{among_first}
use Rattle.dg_burn.proofs.Fires.{into-few}

pub capped-less : (z : ℤ) (e : ℕ) → pos 0 ≤ℤ z → e ≤ 63 → (pos (capped z) <ℤ pos e) ↔ (z <ℤ pos e)
capped-less (pos n) e some few = (λ less. omega (arith, ints), λ less. omega (arith, ints))
capped-less (negsuc n) e some few = absurd (omega (arith, ints))

pub same-may : (g : Multigraph) (q : ℕ) (D : Amounts) (held : List ℕ) (B : ℕ → Bool) (v : ℕ) → IsGraph g →
    IsEffectiveOff g q D → AreCapped g.size D held → B q ≡ true → MayBurn g (list_amounts held) B v ↔ MayBurn g D B v
same-may g q D held B v graph solvent same burns = (
  λ may. record {
    vertex = may.vertex;
    unburnt = may.unburnt;
    reached = (both may.vertex may.unburnt).0 (rw (← same v may.vertex) may.reached);
  },
  λ may. record {
    vertex = may.vertex;
    unburnt = may.unburnt;
    reached = rw (same v may.vertex) ((both may.vertex may.unburnt).1 may.reached);
  },
)
  where
    both : v < g.size → B v ≡ false → (pos (capped (D v)) <ℤ pos (edges_into g B v)) ↔ (D v <ℤ pos
        (edges_into g B v))
    both below out = capped-less (D v) (edges_into g B v)
        (solvent v below (λ is_q. both_ways _ out (ap B is_q ∙ burns)))
        (into-few g B v graph)

pub list_contains-first : (l : List ℕ) (q i : ℕ) → slice_get l 0 ≡ Some q → list_contains (take (suc i) l) q ≡ true
list_contains-first [] q i first = let clash : ⊥ = cc in absurd clash
list_contains-first (x ∷ l) q i first =
    let is_q : x ≡ q = cc in
    rw (eq-eqb x q is_q) refl

pub same-order : (g : Multigraph) (q : ℕ) (D : Amounts) (held l : List ℕ) → IsGraph g →
    IsEffectiveOff g q D → AreCapped g.size D held → IsLeastBurningOrder g q (list_amounts held) l → IsLeastBurningOrder g q D l
same-order g q D held l graph solvent same order = record {
  begun = record {
    first = order.begun.first;
    next = λ i v place.
        let burns : list_contains (take (suc i) l) q ≡ true = list_contains-first l q i order.begun.first in
        let next : BurnsNext g (list_amounts held) (list_contains (take (suc i) l)) v = order.begun.next i v place in
        record {
          may = (same-may g q D held (list_contains (take (suc i) l)) v graph solvent same burns).0 next.may;
          least = λ u before may.
              next.least u before ((same-may g q D held (list_contains (take (suc i) l)) u graph solvent same burns).1 may);
        };
  };
  last = λ v may.
      order.last v ((same-may g q D held (list_contains l) v graph solvent same (among_first l q order.begun.first)).1 may);
}
