-- A burning serves for the amounts that are those that it tells, whatever q has.
--   held-may       who may burn is the same, where q burns
--   whole_order    so its order is that of the amounts
--   whole_reduced  and the amounts are reduced
use Rattle.dg_reduce.proofs.Common.{◌≡◌, ◌≢◌, ℕ, suc, ◌<◌, Bool, true, false, List, take, arith, ap, sym, ◌∙◌, ◌↔◌, both_ways, ints, Multigraph, Amounts, list_contains, MayBurn, BurnsNext, IsLeastBurningOrder, IsReduced, list_contains-first, q_burns, list_amounts, Burning, IsFullOrder, CertifiesBurning, CoversOff}

pub held-may : (g : Multigraph) (q : ℕ) (D : Amounts) (held : List ℕ) (B : ℕ → Bool) (v : ℕ) →
    CoversOff g.size q D held → B q ≡ true → MayBurn g (list_amounts held) B v ↔ MayBurn g D B v
held-may g q D held B v same burns = (
  λ may. record {
    vertex = may.vertex;
    unburnt = may.unburnt;
    reached = rw (← here may.vertex may.unburnt) at may.reached;
  },
  λ may. record {
    vertex = may.vertex;
    unburnt = may.unburnt;
    reached = rw (here may.vertex may.unburnt) at may.reached;
  },
)
  where
    here : v < g.size → B v ≡ false → D v ≡ list_amounts held v
    here below out = same v below (λ is_q. both_ways _ out (ap B is_q ∙ burns))

-- q is the first to burn
pub whole_order : (g : Multigraph) (q : ℕ) (D : Amounts) (x : Burning) → CoversOff g.size q D x.held →
    CertifiesBurning g q x → IsFullOrder g q D x.order
whole_order g q D x same whole = record {
  burns = record {
    begun = record {
      first = order.begun.first;
      next = λ i v place.
          let burns : list_contains (take (suc i) l) q ≡ true = list_contains-first l q i order.begun.first in
          let next : BurnsNext g (list_amounts x.held) (list_contains (take (suc i) l)) v = order.begun.next i v place in
          record {
            may = (held-may g q D x.held (list_contains (take (suc i) l)) v same burns).0 next.may;
            least = λ u before may.
                next.least u before ((held-may g q D x.held (list_contains (take (suc i) l)) u same burns).1 may);
          };
    };
    last = λ v may.
        order.last v ((held-may g q D x.held (list_contains l) v same (q_burns g q (list_amounts x.held) l order)).1 may);
  };
  rest = whole.order.rest;
}
  where
    l : List ℕ
    l = take g.size x.order

    order : IsLeastBurningOrder g q (list_amounts x.held) l
    order = whole.order.burns

pub whole_reduced : (g : Multigraph) (q : ℕ) (D : Amounts) (x : Burning) → CoversOff g.size q D x.held →
    CertifiesBurning g q x → IsReduced g q D
whole_reduced g q D x same whole = record {
  no_debt = λ v below other. omega (arith, ints, same v below other);
  none_fires = λ S without u below member.
      let (v, inside, in_v, less) = whole.reduced.none_fires S without u below member in
      let other : v ≢ q = λ is_q. both_ways _ without (ap S (sym is_q) ∙ in_v) in
      (v, inside, in_v, omega (arith, ints, same v inside other));
}
