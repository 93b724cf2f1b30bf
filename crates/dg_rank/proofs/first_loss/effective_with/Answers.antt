use Rattle.dg_rank.proofs.Common.{◌≡◌, ◌≢◌, ℕ, ◌<◌, ◌≤◌, arith, ◌∙◌, ⊎_elim, cases_eq, only_at-here, only_at-other, ◌≤ℤ◌, unsigned_abs, pos, ints, within_abs, DivisorsAgreeOn, AreEquivalent, minus, equivalent-refl, equivalent-trans, effective_from, reduced_decides, sum_below-at_most, at, IsInLinearSystem, amounts_of_trial}
use Rattle.std.proofs.Math.IntN.{◌+ℤ◌}
use Rattle.dg_rank.proofs.Elsewhere.{form_degree, left_degree, left_small, rich_small}
use Rattle.dg_rank.proofs.first_loss.effective_with.Goals as goal
use Rattle.dg_rank.proofs.first_loss.effective_with.Goals.{After-minus, After-reduce_certified-reduced}

-- the amounts without the trial's
left : (c : After-minus) →
    DivisorsAgreeOn c.args.graph.now.size (minus (at c.args.chips.now) (amounts_of_trial c.args.trial.now)) (at c.minus.result)
left c v inside =
    omega (
      arith,
      ints,
      c.minus.ensures.amounts v (omega arith),
      c.to_divisor-lost.ensures.amounts v (omega (arith, c.requires.places)),
    )

-- they are fired to the reduced ones
led : (c : After-reduce_certified-reduced) →
    DivisorsAgreeOn c.args.graph.now.size (minus (at c.args.chips.now) (amounts_of_trial c.args.trial.now)) (at c.minus.result) →
    AreEquivalent c.args.graph.now (minus (at c.args.chips.now) (amounts_of_trial c.args.trial.now))
    (at c.reduce_certified-reduced.result.reduced.divisor)
led c same = equivalent-trans c.args.graph.now _ (at c.minus.result) _
    (equivalent-refl c.args.graph.now _ (at c.minus.result) same)
    (at c.reduce_certified-reduced.result.reduced.script, c.reduce_certified-reduced.ensures.reduction.led)

-- so the reduced ones, where q owes nothing, are a form of them
form : (c : After-reduce_certified-reduced) →
    DivisorsAgreeOn c.args.graph.now.size (minus (at c.args.chips.now) (amounts_of_trial c.args.trial.now)) (at c.minus.result) →
    pos 0 ≤ℤ at c.reduce_certified-reduced.result.reduced.divisor 0 →
    IsInLinearSystem c.args.graph.now
    (minus (at c.args.chips.now) (amounts_of_trial c.args.trial.now)) c.reduce_certified-reduced.result.reduced.divisor
form c same paid = record {
  size = c.reduce_certified-reduced.ensures.reduction.sizes.0;
  effective = effective_from c.args.graph.now 0
      (at c.reduce_certified-reduced.result.reduced.divisor) c.reduce_certified-reduced.ensures.reduction.reduced paid;
  led = led c same;
}

pub reduce_certified-reduced-requires-clause-range : goal.reduce_certified-reduced-requires-clause-range
reduce_certified-reduced-requires-clause-range c v inside =
    left_small c.args.trial.now (at c.args.chips.now) (at c.minus.result) v c.requires.few
    (omega (arith, c.requires.places)) (c.requires.range v inside)
    (omega (arith, ints, left (goal.at.reduce_certified-reduced-requires-clause-range c).After-minus v inside))

pub returns-then-get-lt0 : goal.returns-then-get-lt0
returns-then-get-lt0 c = λ win.
    let paid : pos 0 ≤ℤ at c.reduce_certified-reduced.result.reduced.divisor 0 =
    (reduced_decides c.args.graph.now 0 (minus (at c.args.chips.now) (amounts_of_trial c.args.trial.now))
    (at c.reduce_certified-reduced.result.reduced.divisor)
    (omega (arith, c.requires.graph.some))
    (led (goal.at.returns-then-get-lt0 c).After-reduce_certified-reduced (left (goal.at.returns-then-get-lt0 c).After-minus))
    c.reduce_certified-reduced.ensures.reduction.reduced).0 win in
    absurd (omega (arith, ints))

pub of-left-requires : goal.of-left-requires
of-left-requires c = record {
  range = λ v inside.
      let rich : IsInLinearSystem c.args.graph.now
      (minus (at c.args.chips.now) (amounts_of_trial c.args.trial.now)) c.reduce_certified-reduced.result.reduced.divisor =
      form (goal.at.of-left-requires c).After-reduce_certified-reduced (left (goal.at.of-left-requires c).After-minus)
      (omega (arith, ints)) in
      let small : unsigned_abs (at c.reduce_certified-reduced.result.reduced.divisor v) ≤ 31984000 =
      rich_small c.args.graph.now.size (at c.reduce_certified-reduced.result.reduced.divisor) 31984000 v rich.effective
      (left_degree c.args.graph.now
      (at c.args.chips.now) c.args.trial.now c.reduce_certified-reduced.result.reduced.divisor c.requires.graph
      c.requires.range rich) (omega (arith, c.reduce_certified-reduced.ensures.reduction.sizes.0)) in
      omega arith;
}

pub give-requires-clause-range : goal.give-requires-clause-range
give-requires-clause-range c =
    let g = c.args.graph.now in
    let x = c.reduce_certified-reduced.result.reduced.divisor in
    let d = goal.at.give-requires-clause-range c in
    let rich = form d.After-reduce_certified-reduced (left d.After-minus) (omega (arith, ints)) in
    let inside : c.loop-v.v < g.size = omega (arith, c.loop-v-test.true, c.size-size.ensures.size) in
    let small : unsigned_abs (at x c.loop-v.v) ≤ 31984000 =
    rich_small g.size (at x) 31984000 c.loop-v.v rich.effective
    (left_degree g (at c.args.chips.now) c.args.trial.now x c.requires.graph c.requires.range rich) inside in
    rw (
      c.loop-v.invariant.after c.loop-v.v (omega arith) inside,
      c.of-left.ensures.amounts c.loop-v.v (omega (arith, c.reduce_certified-reduced.ensures.reduction.sizes.0)),
    ) (omega arith)

pub returns : goal.returns
returns c =
    let g = c.args.graph.now in
    let D = at c.args.chips.now in
    let d = goal.at.returns c in
    let rich = form d.After-reduce_certified-reduced (left d.After-minus) (omega (arith, ints)) in
    let (s, leads) = rich.led in
    let given : (v : ℕ) → v < g.size →
    at c.loop-v.left v ≡ at c.reduce_certified-reduced.result.reduced.divisor v +ℤ amounts_of_trial c.args.trial.now v =
    λ v below. omega (
      arith,
      ints,
      c.loop-v.invariant.before v (omega (arith, c.loop-v-test.false, c.loop-v.auto.v-end, c.size-size.ensures.size)),
      c.of-left.ensures.amounts v (omega (arith, c.reduce_certified-reduced.ensures.reduction.sizes.0)),
    ) in
    let back : IsInLinearSystem g D c.loop-v.left = record {
      size = c.loop-v.invariant.size;
      effective = λ v below. omega (arith, ints, rich.effective v below, given v below);
      led = (s, λ v below. omega (arith, ints, leads v below, given v below));
    } in
    record {
      form = back;
      few = omega (
        arith,
        ints,
        form_degree g D c.loop-v.left c.requires.graph.multigraph back,
        sum_below-at_most g.size 1999000 D (λ w below.
            let (low, high) = within_abs (D w) 1999000 (c.requires.range w below) in
            omega (arith, ints)),
        c.requires.graph.few,
      );
    }

pub loop-v-preserved : goal.loop-v-preserved
loop-v-preserved c =
    let v = c.loop-v.v in
    let d = c.get-in-loop-v.result in
    let inside : v < c.args.graph.now.size = omega (arith, c.loop-v-test.true, c.size-size.ensures.size) in
    record {
      size = c.give.ensures.size ∙ c.loop-v.invariant.size;
      before = λ u low. ⊎_elim
          (λ (there : u ≡ v). rw there (omega (
            arith,
            ints,
            c.give.ensures.amounts v,
            c.loop-v.invariant.after v (omega arith) inside,
            only_at-here v (pos d),
            c.get-in-loop-v.ensures,
          )))
          (λ (other : u ≡ v → ⊥). omega (
            arith,
            ints,
            c.give.ensures.amounts u,
            c.loop-v.invariant.before u (omega arith),
            only_at-other v (pos d) u other,
          ))
          (cases_eq u v);
      after = λ u past below.
          let other : u ≢ v = omega arith in
          omega (
            arith,
            ints,
            c.give.ensures.amounts u,
            c.loop-v.invariant.after u (omega arith) below,
            only_at-other v (pos d) u other,
          );
    }
