use Rattle.dg_chips.proofs.Common.{◌≡◌, ◌≢◌, ℕ, ◌+◌, ◌<◌, ◌≤◌, List, length, length-set, slice_set, get_or-set_same, get_or-set_other, arith, inl, inr, sym, ap, subst, ◌∙◌, ⊎_elim, w32, slice_index_or, unsigned_abs, cases_eq, cases_lt, ints, to_z-of_z, get_or_past, ℤ, pos, ◌+ℤ◌, ◌-ℤ◌, ◌*ℤ◌, to_z, of_z, valence, Amounts, fired, only_at, within_abs, Vector, at}
use Rattle.dg_chips.proofs.VectorLaws.{filled-set, within_all}
use Rattle.dg_chips.proofs.SetLending.{range-more}
use Rattle.dg_chips.proofs.OneLending.{fired-lender, fired-outside, held_gain, read_back}
use Rattle.dg_chips.proofs.divisor.Divisor.after_lending.Goals as goal
use Rattle.dg_chips.proofs.divisor.Divisor.after_lending.Goals.{After-carried_once-in-loop-w}

-- what comes to the vertex at hand is little
few : (c : After-carried_once-in-loop-w) → unsigned_abs c.carried_once-in-loop-w.result ≤ 255
few c =
    let once : unsigned_abs (to_z w32 (of_z w32 c.args.times)) ≤ 1 =
    rw (to_z-of_z w32 c.args.times c.ranges.times) c.requires.times in
    omega (arith, c.carried_once-in-loop-w.ensures.limit)

-- the amount there and what comes to it, and what the amount there is after the lending
abbrev sum : After-carried_once-in-loop-w → ℤ
sum c = to_z w32 (of_z w32 (slice_index_or c.loop-w.amounts c.loop-w.w (pos 0)))
    +ℤ to_z w32 (of_z w32 c.carried_once-in-loop-w.result)

abbrev wanted : After-carried_once-in-loop-w → ℤ
wanted c = fired c.args.graph.now (at c.args.self.now) (only_at c.args.v (to_z w32 (of_z w32 c.args.times))) c.loop-w.w

after : (c : After-carried_once-in-loop-w) → to_z w32 (of_z w32 (sum c)) ≡ wanted c
after c =
    let w : ℕ = c.loop-w.w in
    held_gain _ _ _ _ (c.loop-w.invariant.small w (omega arith)) (few c)
    (c.carried_once-in-loop-w.ensures.product
    ∙ ap (λ (k : ℕ). pos k *ℤ to_z w32 (of_z w32 c.args.times)) (c.row-row.ensures w))
    (c.loop-w.invariant.ahead w (omega arith))

kept : (c : After-carried_once-in-loop-w) → to_z w32 (of_z w32 (slice_index_or
    (slice_set c.loop-w.amounts c.loop-w.w (to_z w32 (of_z w32 (sum c)))) c.loop-w.w (pos 0))) ≡ wanted c
kept c = read_back c.loop-w.amounts c.loop-w.w (sum c) (wanted c) (omega arith) (after c)

pub loop-w-init : goal.loop-w-init
loop-w-init c =
    let x : ℤ = to_z w32 (of_z w32 c.args.times) in
    let xs : List ℤ = c.self.inside.amounts in
    let y : ℤ = to_z w32
    (of_z w32 (to_z w32 (of_z w32 (slice_index_or xs c.args.v (pos 0))) -ℤ to_z w32 (of_z w32 c.carried_once.result)))
    in
    let same : (u : ℕ) → slice_index_or xs u (pos 0) ≡ at c.args.self.now u =
    λ u. ap (λ (d : Vector). at d u) c.self.view_is in
    let right : (u : ℕ) → unsigned_abs (slice_index_or xs u (pos 0)) ≤ 1000000 =
    within_all 1000000 _ c.self.invariant in
    let places : length xs ≡ 16 = omega arith in
    let within : c.args.v < length xs = omega arith in
    let once : unsigned_abs x ≤ 1 = rw (to_z-of_z w32 c.args.times c.ranges.times) c.requires.times in
    let lost : c.carried_once.result ≡ pos (valence c.args.graph.now c.args.v) *ℤ x =
    c.carried_once.ensures.product ∙ ap (λ (k : ℕ). pos k *ℤ x) c.valence.ensures in
    let few : unsigned_abs c.carried_once.result ≤ 255 = omega (arith, c.carried_once.ensures.limit) in
    let (low, high) = within_abs c.carried_once.result 255 few in
    let (low', high') = within_abs (slice_index_or xs c.args.v (pos 0)) 1000000 (right c.args.v) in
    let here : y ≡ at c.args.self.now c.args.v -ℤ pos (valence c.args.graph.now c.args.v) *ℤ x =
    omega (arith, ints, same c.args.v) in
    let lent : slice_index_or (slice_set xs c.args.v y) c.args.v (pos 0) ≡ y =
    get_or-set_same xs c.args.v y (pos 0) within in
    let others : (u : ℕ) → u ≢ c.args.v →
    slice_index_or (slice_set xs c.args.v y) u (pos 0) ≡ slice_index_or xs u (pos 0) =
    λ u other. get_or-set_other xs c.args.v u y (pos 0) other in
    let near : unsigned_abs y ≤ 1000255 = omega (arith, ints) in
    record {
      size = length-set _ _ _ ∙ places;
      done = λ u none. absurd (omega arith);
      range = λ u none. absurd (omega arith);
      ahead = λ u _. fired-lender c.args.graph.now (at c.args.self.now)
          (λ w. slice_index_or (slice_set xs c.args.v y) w (pos 0)) c.args.v x
          c.size-size.ensures.graph.multigraph c.requires.vertex (lent ∙ here) (λ w other. others w other ∙ same w) u;
      small = λ u _. ⊎_elim
          (λ (equal : u ≡ c.args.v). rw (equal, lent) near)
          (λ (other : u ≢ c.args.v). rw (others u other) (omega (arith, right u)))
          (cases_eq u c.args.v);
    }

pub overflow_add-amounts : goal.overflow_add-amounts
overflow_add-amounts c =
    let got : ℤ = c.carried_once-in-loop-w.result in
    let (low, high) = within_abs got 255 (few (goal.at.overflow_add-amounts c).After-carried_once-in-loop-w) in
    let (low', high') =
    within_abs (slice_index_or c.loop-w.amounts c.loop-w.w (pos 0)) 1000255
    (c.loop-w.invariant.small c.loop-w.w (omega arith)) in
    omega (arith, ints)

pub returns-then-not-fits : goal.returns-then-not-fits
returns-then-not-fits c =
    let x : ℤ = to_z w32 (of_z w32 c.args.times) in
    let (w, few, far) = rw c.if-not-fits.true at c.loop-w.invariant.range in
    let held : x ≡ c.args.times = to_z-of_z w32 c.args.times c.ranges.times in
    let sized : c.self.inside.size ≡ c.args.self.now.size = ap (λ (d : Vector). d.size) c.self.view_is in
    elim (cases_lt w c.args.graph.now.size) [
      | inl below ↦
          let moved = λ (z : ℤ). fired c.args.graph.now (at c.args.self.now) (only_at c.args.v z) w in
          (w, below, subst (λ (z : ℤ). 1000000 < unsigned_abs (moved z)) held far)
      | inr past ↦
          let empty : at c.args.self.now w ≡ pos 0 =
          sym (ap (λ (d : Vector). at d w) c.self.view_is) ∙ c.self.invariant.inside w (omega arith) in
          let none : fired c.args.graph.now (at c.args.self.now) (only_at c.args.v x) w ≡ pos 0 =
          fired-outside c.args.graph.now (at c.args.self.now) c.args.v x w c.size-size.ensures.graph.multigraph
          c.requires.vertex (omega arith) empty in
          absurd (omega (arith, ap unsigned_abs none))
    ]

pub loop-w-preserved : goal.loop-w-preserved
loop-w-preserved c =
    let w : ℕ = c.loop-w.w in
    let xs : List ℤ = c.loop-w.amounts in
    let within : w < length xs = omega arith in
    let here = (goal.at.loop-w-preserved c).After-carried_once-in-loop-w in
    let moved : Amounts =
    fired c.args.graph.now (at c.args.self.now) (only_at c.args.v (to_z w32 (of_z w32 c.args.times))) in
    let told : c.from.result ≡ unsigned_abs (wanted here) =
    c.from.ensures ∙ c.unsigned_abs.ensures.value ∙ ap unsigned_abs (kept here) in
    let others = λ (u : ℕ) (above : w + 1 ≤ u).
    let other : u ≢ w = omega arith in get_or-set_other xs w u (to_z w32 (of_z w32 (sum here))) (pos 0) other in
    record {
      size = length-set _ _ _ ∙ c.loop-w.invariant.size;
      done = filled-set xs w _ _ within (after here) c.loop-w.invariant.done;
      range = rw told (range-more moved w c.loop-w.fits c.loop-w.invariant.range);
      ahead = λ u above. rw (others u above) (c.loop-w.invariant.ahead u (omega arith));
      small = λ u above. rw (others u above) (c.loop-w.invariant.small u (omega arith));
    }

pub from_array-requires : goal.from_array-requires
from_array-requires c =
    let near = rw c.if-not-fits.false at c.loop-w.invariant.range in
    let x : ℤ = to_z w32 (of_z w32 c.args.times) in
    let sized : c.self.inside.size ≡ c.args.self.now.size = ap (λ (d : Vector). d.size) c.self.view_is in
    let empty : (u : ℕ) → c.args.graph.now.size ≤ u → at c.args.self.now u ≡ pos 0 =
    λ u past. sym (ap (λ (d : Vector). at d u) c.self.view_is) ∙ c.self.invariant.inside u (omega arith) in
    record {
      few = omega arith;
      places = omega arith;
      within = λ u below. rw (c.loop-w.invariant.done u (omega arith)) (near u (omega arith));
      inside = λ u past. elim (cases_lt u 16) [
        | inl below ↦ c.loop-w.invariant.done u (omega arith)
            ∙ fired-outside c.args.graph.now
            (at c.args.self.now) c.args.v x u c.size-size.ensures.graph.multigraph c.requires.vertex (omega arith)
            (empty u (omega arith))
        | inr above ↦ get_or_past c.loop-w.amounts u (pos 0) (omega arith)
      ];
    }
