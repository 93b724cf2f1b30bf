use Rattle.dg_rank.proofs.Common.{◌≡◌, ℕ, ◌+◌, ◌-◌, ◌<◌, ◌≤◌, ⊎_elim, true, arith, ap, min, ints, ◌∙◌, cases_eq, set, slice_index, Some, pos, unsigned_abs, only_at, only_at-here, minus, at, IsInLinearSystem}
use Rattle.std.specs.Option.{option_copied}
use Rattle.dg_rank.proofs.Elsewhere.{given_back, own_class, rich_small, told_by}
use Rattle.dg_rank.proofs.LossBoxes.{class_small, dollar_pays, none_held, nothing_unpaid, paid_none, paid_rises, paid_shifted, payer_wins, pays_told, taken_small, unpaid_beyond}
use Rattle.dg_rank.specs.Prices.{paid}
use Rattle.dg_rank.proofs.boxes.find_unpaid_dollar.Goals as goal

pub loop-v-init : goal.loop-v-init
loop-v-init c =
    let own = own_class c.args.graph.now c.args.left.now c.requires.size c.requires.effective in
    record {
      class = own;
      small = c.requires.small;
      most = λ u below. omega (arith, c.shortfalls-lacks.ensures u (omega (arith, below, c.requires.size)));
      payable = λ u below none. payer_wins c.args.graph.now (at c.args.left.now) c.args.left.now u
          (slice_index c.most_costs-costs.result u) own
          (omega (
            arith,
            ints,
            c.requires.effective u below,
            none,
            c.shortfalls-lacks.ensures u (omega (arith, below, c.requires.size)),
          ));
      done = λ u low. absurd (omega arith);
    }

pub loop-v-preserved-then-lacks-v-eq0 : goal.loop-v-preserved-then-lacks-v-eq0
loop-v-preserved-then-lacks-v-eq0 c = record {
  class = c.loop-v.invariant.class;
  small = c.loop-v.invariant.small;
  most = c.loop-v.invariant.most;
  payable = c.loop-v.invariant.payable;
  done = λ u low. ⊎_elim
      (λ (same : u ≡ c.loop-v.v). rw same (c.loop-v.invariant.payable c.loop-v.v
      (omega (arith, c.loop-v-test.true, c.size-size.ensures.size)) c.if-lacks-v-eq0.true))
      (λ (other : u ≡ c.loop-v.v → ⊥). c.loop-v.invariant.done u (omega arith))
      (cases_eq u c.loop-v.v);
}

pub give-requires-clause-range : goal.give-requires-clause-range
give-requires-clause-range c =
    let g = c.args.graph.now in
    let v = c.loop-v.v in
    let form = c.in-Some.ensures in
    let below : v < g.size = omega (arith, c.loop-v-test.true, c.size-size.ensures.size) in
    let small : unsigned_abs (at c.in-Some.other v) ≤ 32000000 =
    rich_small g.size (at c.in-Some.other) 32000000 v form.effective
    (taken_small g (at c.loop-v.left) c.in-Some.other v c.from-price.result
    c.size-size.ensures.graph.multigraph below c.loop-v.invariant.small form)
    below in
    omega arith

pub loop-v-preserved : goal.loop-v-preserved
loop-v-preserved c =
    let g = c.args.graph.now in
    let A = at c.loop-v.left in
    let v = c.loop-v.v in
    let cost = slice_index c.most_costs-costs.result v in
    let below : v < g.size = omega (arith, c.loop-v-test.true, c.size-size.ensures.size) in
    let form : IsInLinearSystem g A c.give.new.self = given_back g (minus A (only_at v (pos c.from-price.result))) A
    c.in-Some.other c.give.new.self v c.from-price.result c.in-Some.ensures c.give.ensures.size (λ w. omega (arith, ints))
    c.give.ensures.amounts in
    let class = told_by true g (at c.args.left.now) A c.give.new.self c.loop-v.invariant.class.led form in
    record {
      class = class;
      small = class_small g A c.give.new.self c.size-size.ensures.graph.multigraph c.loop-v.invariant.small form;
      most = λ u inside. omega (
        arith,
        c.lesser-lacks.ensures u (omega (arith, inside, c.size-size.ensures.graph.few)),
        c.loop-v.invariant.most u inside,
      );
      payable = λ u inside none. ⊎_elim
          (λ (before : slice_index c.loop-v.lacks u ≡ 0). c.loop-v.invariant.payable u inside before)
          (λ (lacking : slice_index c.loop-v.lacks u ≡ 0 → ⊥). payer_wins g (at c.args.left.now) c.give.new.self u
          (slice_index c.most_costs-costs.result u) class (omega (
            arith,
            ints,
            none,
            lacking,
            c.lesser-lacks.ensures u (omega (arith, inside, c.size-size.ensures.graph.few)),
            c.shortfalls.ensures u (omega (arith, inside, form.size)),
            class.effective u inside,
          )))
          (cases_eq (slice_index c.loop-v.lacks u) 0);
      done = λ u low. ⊎_elim
          (λ (same : u ≡ v). rw same (payer_wins g (at c.args.left.now) c.give.new.self v cost class
          (omega (
            arith,
            ints,
            c.from-price.ensures,
            c.give.ensures.amounts v,
            only_at-here v (pos c.from-price.result),
            c.in-Some.ensures.effective v below,
          ))))
          (λ (other : u ≡ v → ⊥). c.loop-v.invariant.done u (omega arith))
          (cases_eq u v);
    }

pub returns-in_default-clause-told : goal.returns-in_default-clause-told
returns-in_default-clause-told c =
    let g = c.args.graph.now in
    let A = at c.loop-v.left in
    let v = c.loop-v.v in
    let o = option_copied c.args.prices in
    let l = c.args.lost.now in
    let room = c.args.room.now in
    let below : v < g.size = omega (arith, c.loop-v-test.true, c.size-size.ensures.size) in
    let few : g.size ≤ 16 = c.size-size.ensures.graph.few in
    let cost = c.most_costs-costs.ensures v (omega (arith, below, few)) in
    let roomy : 1 ≤ slice_index room v = ⊎_elim
    (λ (closed : slice_index room v ≡ 0).
    let none : min (slice_index room v) 1 ≡ 0 = omega arith in
    absurd (omega (
      arith,
      c.if-lacks-v-eq0.false,
      c.loop-v.invariant.most v below,
      cost,
      ap (λ (x : ℕ). paid o l v x) none,
      paid_none o l v,
    )))
    (λ (some : slice_index room v ≡ 0 → ⊥). omega arith)
    (cases_eq (slice_index room v) 0) in
    let one : min (slice_index room v) 1 ≡ 1 = omega arith in
    let price : c.from-price.result ≡ paid o l v 1 = c.from-price.ensures ∙ cost ∙ ap (λ (x : ℕ). paid o l v x) one in
    let l' = set l v (slice_index l v + 1) in
    pays_told (Some c.with_more.result) g (at c.args.left.now) A (paid o l) room 1 c.loop-v.invariant.class.led
    (unpaid_beyond g A (paid o l) (paid o l') room 1 v 1 c.with_more.result c.all_at_last.result below few
    (omega (arith, below, c.told-room, few)) roomy (omega arith) (paid_rises o l 1 c.requires.told)
    (paid_shifted o l v 1 1 c.requires.told (omega (arith, below, few)) (omega (arith, below, c.told-lost, few)))
    (nothing_unpaid g (minus A (only_at v (pos (paid o l v 1)))) (paid o l') (set room v (slice_index room v - 1)) 0
    c.all_at_last.result (paid_none o l') (c.all_at_last.ensures.places ∙ c.size-size.ensures.size)
    (none_held g.size c.all_at_last.result (rw c.size-size.ensures.size at c.all_at_last.ensures.held)
    (rw c.size-size.ensures.size at c.all_at_last.ensures.empty))
    (rw price at c.in_default.ensures))
    c.with_more.ensures)

pub returns-clause-told : goal.returns-clause-told
returns-clause-told c =
    dollar_pays c.args.graph.now (at c.args.left.now) (paid (option_copied c.args.prices) c.args.lost.now) c.args.room.now
    c.most_costs-costs.result c.size-size.ensures.graph.few
    (paid_none (option_copied c.args.prices) c.args.lost.now) c.most_costs-costs.ensures c.requires.effective
    (λ u below. c.loop-v.invariant.done u (omega (arith, c.loop-v-test.false, c.size-size.ensures.size)))
