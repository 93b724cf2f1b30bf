-- How a form is fired by what burning leaves, and pays back what one vertex owes.
--   edges_apart      an edge of a vertex leads into a set or out of it
--   rest_lends       a vertex of the set gains what leads out of it, below 0
--   rest_receives    any other vertex gains all its edges but those that lead out of the set
--   rest_edges_few   the edges of a vertex that is not in the set, and none of one that is, are at most all its edges
--   rest_gains       so a vertex gains its edges, if it is not in the set, less those that lead out of it
--   gain_small       so no vertex gains or loses more than it has edges
--   gain_past        and past the last vertex nothing is gained
--   rest_again       what an earlier burning left is left still, if nobody but one is in debt after one more fire of it
--   once_more        after one more set has lent, such sets led there
--   once_falls       the weight falls where one more set lends once
--   once_limit       from amounts within 2^26 come amounts within 17 * 2^26
use Rattle.dg_reduce.proofs.Common.{if◌then◌else◌, ◌≡◌, ℕ, zero, suc, ◌+◌, ◌*◌, ◌^◌, ◌<◌, ◌≤◌, Bool, true, false, List, arith, refl, sym, ap, ◌∙◌, ⊎_elim, unsigned_abs, cases_Bool, ints, pos, ℤ, ◌-ℤ◌, nat_sum_below, Multigraph, edges_between, valence, Amounts, fired, gain, indicator, multiple, FiresTo, edges_out, edges_into, IsLegalSetFiring, abs_within, into-le-valence, out-le-valence, equivalent-trans, fired-cong, multiple-once, weights, levels_are_potential, led_step, led-cong, led_limit, distance_from, distance_from-is, gain-inside, gain-outside, weight_of, weight_of-cong, weight_falls_by_set, IsGraph, valence-outside, Vector, at}
use Rattle.dg_reduce.specs.Rests.{IsFloorOff, IsUnburntRest, StaysAboveFloor}
use Rattle.dg_reduce.specs.declared.effective_divisor.UnburntSet.{UnburntSet}
use Rattle.dg_reduce.proofs.DebtSteps.{IsRepaying}

apart : (b : Bool) (e : ℕ) → (if b then e else 0) + (if b then 0 else e) ≡ e
apart true e = omega arith
apart false e = omega arith

totals_apart : (n : ℕ) (S : ℕ → Bool) (f : ℕ → ℕ) →
    nat_sum_below n (λ w. if S w then f w else 0) + nat_sum_below n (λ w. if S w then 0 else f w) ≡ nat_sum_below n f
totals_apart zero S f = refl
totals_apart (suc n) S f =
    let before : nat_sum_below n (λ w. if S w then f w else 0) + nat_sum_below n (λ w. if S w then 0 else f w)
    ≡ nat_sum_below n f =
    totals_apart n S f in
    let last : (if S n then f n else 0) + (if S n then 0 else f n) ≡ f n = apart (S n) (f n) in
    omega arith

pub edges_apart : (g : Multigraph) (S : ℕ → Bool) (v : ℕ) → edges_into g S v + edges_out g S v ≡ valence g v
edges_apart g S v = totals_apart g.size S (edges_between g v)

pub rest_lends : (g : Multigraph) (S : ℕ → Bool) (v : ℕ) → S v ≡ true →
    gain g (indicator S) v ≡ pos 0 -ℤ pos (edges_out g S v)
rest_lends g S v inside = omega (arith, ints, gain-inside g S v inside)

pub rest_receives : (g : Multigraph) (S : ℕ → Bool) (v : ℕ) → S v ≡ false →
    gain g (indicator S) v ≡ pos (valence g v) -ℤ pos (edges_out g S v)
rest_receives g S v outside = omega (arith, ints, gain-outside g S v outside, edges_apart g S v)

pub rest_edges_few : (g : Multigraph) (S : ℕ → Bool) (v e : ℕ) → e ≡ (if S v then 0 else valence g v) → e ≤ valence g v
rest_edges_few g S v e edges = ⊎_elim
    (λ (member : S v ≡ true).
    let none : e ≡ 0 = edges ∙ ap (λ b. if b then 0 else valence g v) member in
    omega arith)
    (λ (other : S v ≡ false).
    let all : e ≡ valence g v = edges ∙ ap (λ b. if b then 0 else valence g v) other in
    omega arith)
    (cases_Bool (S v))

pub rest_gains : (g : Multigraph) (S : ℕ → Bool) (v e : ℕ) → e ≡ (if S v then 0 else valence g v) →
    gain g (indicator S) v ≡ pos e -ℤ pos (edges_out g S v)
rest_gains g S v e edges = ⊎_elim
    (λ (member : S v ≡ true).
    let none : e ≡ 0 = edges ∙ ap (λ b. if b then 0 else valence g v) member in
    omega (arith, ints, rest_lends g S v member))
    (λ (other : S v ≡ false).
    let all : e ≡ valence g v = edges ∙ ap (λ b. if b then 0 else valence g v) other in
    omega (arith, ints, rest_receives g S v other))
    (cases_Bool (S v))

pub gain_small : (g : Multigraph) (S : ℕ → Bool) (v : ℕ) → IsGraph g →
    unsigned_abs (gain g (indicator S) v) ≤ valence g v
gain_small g S v graph =
    let into : edges_into g S v ≤ valence g v = into-le-valence g S v in
    let out : edges_out g S v ≤ valence g v = out-le-valence g S v in
    ⊎_elim
    (λ (member : S v ≡ true).
    let lost : gain g (indicator S) v ≡ pos 0 -ℤ pos (edges_out g S v) = rest_lends g S v member in
    abs_within (gain g (indicator S) v) (valence g v) (omega (arith, ints)) (omega (arith, ints)))
    (λ (other : S v ≡ false).
    let got : gain g (indicator S) v ≡ pos (edges_into g S v) = gain-outside g S v other in
    abs_within (gain g (indicator S) v) (valence g v) (omega (arith, ints)) (omega (arith, ints)))
    (cases_Bool (S v))

pub gain_past : (g : Multigraph) (S : ℕ → Bool) (v : ℕ) → IsGraph g → g.size ≤ v → gain g (indicator S) v ≡ pos 0
gain_past g S v graph past =
    let none : unsigned_abs (gain g (indicator S) v) ≤ valence g v = gain_small g S v graph in
    omega (arith, ints, valence-outside g v graph past)

pub rest_again : (g : Multigraph) (v : ℕ) (x y : Vector) (rest : UnburntSet) (floor : List ℤ) → IsGraph g →
    IsRepaying g v x y → (D : Amounts) × IsUnburntRest g v D rest → IsFloorOff v floor →
    StaysAboveFloor 16 floor (at y) rest → IsUnburntRest g v (at y) rest
rest_again g v x y rest floor graph state (D, before) off stays = record {
  free = record {
    vertices = before.free.vertices;
    without = before.free.without;
    no_debt = λ w below other. omega (
      arith,
      ints,
      off w other,
      stays w (omega (arith, graph.few)),
      before.gains w (omega (arith, graph.few)),
    );
  };
  member = before.member;
  gains = before.gains;
  small = before.small;
}

once : (g : Multigraph) (D : Amounts) (S : ℕ → Bool) (w : ℕ) → w < g.size →
    fired g D (multiple (pos 1) (indicator S)) w ≡ fired g D (indicator S) w
once g D S w below =
    fired-cong g D (multiple (pos 1) (indicator S)) (indicator S) w below (λ u _. multiple-once (indicator S) u)

pub once_more : (g : Multigraph) (v : ℕ) (S : ℕ → Bool) (x y z : Vector) → IsGraph g → v < g.size →
    IsRepaying g v x y → IsLegalSetFiring g v (at y) S → z.size ≡ g.size → FiresTo g (indicator S) (at y) (at z) →
    IsRepaying g v x z
once_more g v S x y z graph vertex state free size fires = record {
  size = size;
  led = led-cong g v (at x) (fired g (at y) (multiple (pos 1) (indicator S))) (at z) vertex
      (λ w below. once g (at y) S w below ∙ sym (fires w below))
      (led_step g v (at x) (at y) S (pos 1) graph.multigraph state.led free.without (omega (arith, ints))
      (λ w below other. rw (once g (at y) S w below) (free.no_debt w below other)));
  equivalent = equivalent-trans g (at x) (at y) (at z) state.equivalent (indicator S, fires);
}

pub once_falls : (g : Multigraph) (v : ℕ) (S : ℕ → Bool) (x y z : Vector) (u : ℕ) → IsGraph g → v < g.size →
    IsRepaying g v x y → IsLegalSetFiring g v (at y) S → S u ≡ true → FiresTo g (indicator S) (at y) (at z) →
    weight_of g (weights (distance_from g v)) (at z) < weight_of g (weights (distance_from g v)) (at y)
once_falls g v S x y z u graph vertex state free member fires =
    let less : weight_of g (weights (distance_from g v)) (fired g (at y) (indicator S))
    < weight_of g (weights (distance_from g v)) (at y) =
    weight_falls_by_set g v (weights (distance_from g v)) (at y) S u graph.multigraph
    (levels_are_potential g v (distance_from g v) graph.multigraph
    (distance_from-is g v graph.multigraph vertex) graph.few graph.valences)
    state.led.no_debt free (free.vertices u member) member in
    let now : weight_of g (weights (distance_from g v)) (at z)
    ≡ weight_of g (weights (distance_from g v)) (fired g (at y) (indicator S)) =
    weight_of-cong g (weights (distance_from g v)) (at z) (fired g (at y) (indicator S)) fires in
    omega arith

pub once_limit : (g : Multigraph) (v : ℕ) (x y : Vector) → IsGraph g → v < g.size → IsRepaying g v x y →
    ((w : ℕ) → w < g.size → unsigned_abs (at x w) ≤ 2 ^ 26) → (w : ℕ) → w < g.size → unsigned_abs (at y w) ≤ 17 * 2 ^ 26
once_limit g v x y graph vertex state range w inside =
    led_limit g v (at x) (at y) (2 ^ 26) w vertex graph.few range state.led inside
