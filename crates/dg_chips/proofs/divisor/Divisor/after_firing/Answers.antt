use Rattle.dg_chips.proofs.Common.{◌≡◌, ◌∙◌, ℕ, ◌<◌, ◌≤◌, List, length, length-set, get_or-set_other, ◌≢◌, Bool, ap, arith, inl, inr, w32, slice_index_or, slice_index, unsigned_abs, ℤ, pos, ◌+ℤ◌, ◌-ℤ◌, cases_lt, ints, get_or_past, to_z, of_z, Amounts, fired, indicator, gain, Multigraph, valence, IsGraph, in_set, IsVertexSet, valence-few, Vector, IsVector, at}
use Rattle.dg_theory.proofs.Debts.{if-le}
use Rattle.dg_chips.proofs.VectorLaws.{filled-set, within_all}
use Rattle.dg_chips.proofs.OneLending.{read_back}
use Rattle.dg_chips.proofs.SetLending.{set-gain, set-outside, held_flow, range-more}
use Rattle.dg_chips.proofs.divisor.Divisor.after_firing.Goals as goal

pub loop-w-preserved : goal.loop-w-preserved
loop-w-preserved c =
    let w : ℕ = c.loop-w.w in
    let xs : List ℤ = c.loop-w.amounts in
    let S : ℕ → Bool = in_set c.args.set in
    let moved : Amounts = fired c.args.graph.now (at c.args.self.now) (indicator S) in
    let few : w < 16 = omega arith in
    let within : w < length xs = omega arith in
    let got : ℕ = slice_index c.set_firing_sums.result.0 w in
    let lent : ℕ = slice_index c.set_firing_sums.result.1 w in
    let flow : gain c.args.graph.now (indicator S) w ≡ pos got -ℤ pos lent =
    set-gain c.args.graph.now S w got lent (c.set_firing_sums.ensures.got w few) (c.set_firing_sums.ensures.lent w few) in
    let same : slice_index_or c.self.inside.amounts w (pos 0) ≡ at c.args.self.now w =
    ap (λ (d : Vector). at d w) c.self.view_is in
    let ahead : slice_index_or xs w (pos 0) ≡ at c.args.self.now w = c.loop-w.invariant.ahead w (omega arith) in
    let small : unsigned_abs (slice_index_or xs w (pos 0)) ≤ 1000000 =
    rw (ahead, ← same) (within_all 1000000 _ c.self.invariant w) in
    let less : lent ≤ 255 = omega (
      arith,
      c.set_firing_sums.ensures.lent w few,
      if-le (in_set c.args.set w) (valence c.args.graph.now w),
      valence-few c.args.graph.now w c.size-size.ensures.graph,
    ) in
    let sum : ℤ = to_z w32 (of_z w32 (slice_index_or xs w (pos 0))) +ℤ
    to_z w32 (of_z w32 (to_z w32 (of_z w32 c.from.result) -ℤ to_z w32 (of_z w32 c.from-in-loop-w.result))) in
    let after : to_z w32 (of_z w32 sum) ≡ moved w =
    held_flow (slice_index_or xs w (pos 0)) c.from.result c.from-in-loop-w.result (moved w) got lent small
    (omega arith) less c.from.ensures c.from-in-loop-w.ensures
    (omega (arith, ints)) in
    let kept = read_back xs w sum (moved w) within after in
    let told : c.from-in-loop-w-2.result ≡ unsigned_abs (moved w) =
    c.from-in-loop-w-2.ensures ∙ c.unsigned_abs.ensures.value ∙ ap unsigned_abs kept in
    record {
      size = length-set _ _ _ ∙ c.loop-w.invariant.size;
      done = filled-set xs w _ _ within after c.loop-w.invariant.done;
      ahead = λ u above.
          let other : u ≢ w = omega arith in
          get_or-set_other xs w u _ (pos 0) other ∙ c.loop-w.invariant.ahead u (omega arith);
      range = rw told (range-more moved w c.loop-w.fits c.loop-w.invariant.range);
    }

-- there is nothing past the graph
none : (g : Multigraph) (d : Vector) (S : ℕ → Bool) (v : ℕ) → IsGraph g → IsVertexSet g.size S → IsVector 1000000 d →
    d.size ≡ g.size → g.size ≤ v → fired g (at d) (indicator S) v ≡ pos 0
none g d S v graph inside right size past = set-outside g (at d) S v graph inside past (right.inside v (omega arith))

pub returns-then-not-fits : goal.returns-then-not-fits
returns-then-not-fits c =
    let (v, below, far) = rw c.if-not-fits.true at c.loop-w.invariant.range in
    elim (cases_lt v c.args.graph.now.size) [
      | inl inside ↦ (v, inside, far)
      | inr past ↦
          let empty = none c.args.graph.now c.args.self.now (in_set c.args.set) v c.size-size.ensures.graph
          c.requires.vertices (rw c.self.view_is at c.self.invariant) c.requires.size past in
          absurd (omega (arith, ap unsigned_abs empty))
    ]

pub from_array-requires : goal.from_array-requires
from_array-requires c =
    let near = rw c.if-not-fits.false at c.loop-w.invariant.range in
    record {
      few = omega arith;
      places = omega arith;
      within = λ u below. rw (c.loop-w.invariant.done u (omega arith)) (near u (omega arith));
      inside = λ u past. elim (cases_lt u 16) [
        | inl below ↦ c.loop-w.invariant.done u (omega arith)
            ∙ none c.args.graph.now c.args.self.now (in_set c.args.set) u c.size-size.ensures.graph
            c.requires.vertices (rw c.self.view_is at c.self.invariant) c.requires.size (omega arith)
        | inr above ↦ get_or_past c.loop-w.amounts u (pos 0) (omega arith)
      ];
    }
