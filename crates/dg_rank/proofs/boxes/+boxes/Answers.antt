use Rattle.dg_rank.proofs.Common.{◌≡◌, ℕ, ◌+◌, ◌-◌, ◌<◌, ◌≤◌, ⊎_elim, true, Some, None, ap, length, min, set, get_or-set_same, get_or-set_other, slice_index, ◌∙◌, amounts_of_trial, arith, cases_eq, ints, unsigned_abs, pos, only_at, minus, at, IsInLinearSystem}
use Rattle.std.specs.Option.{option_copied}
use Rattle.dg_rank.specs.Prices.{paid, BoxPays}
use Rattle.dg_rank.proofs.Elsewhere.{given_back, own_class, rich_small, told_by}
use Rattle.dg_rank.proofs.LossBoxes.{class_small, in_few, none_held, nothing_unpaid, paid_none, paid_rises, paid_shifted, pays_closed, pays_told, rich_pays, taken_small, told_more, unpaid_beyond}
use Rattle.dg_rank.proofs.boxes.+boxes.Goals as goal

pub find_unpaid-returns-then-dollars-eq0-clause-class : goal.find_unpaid-returns-then-dollars-eq0-clause-class
find_unpaid-returns-then-dollars-eq0-clause-class t c =
    own_class c.args.graph.now c.args.left.now c.requires.size c.requires.effective

pub find_unpaid-returns-then-boxes-eq0-clause-class : goal.find_unpaid-returns-then-boxes-eq0-clause-class
find_unpaid-returns-then-boxes-eq0-clause-class t c =
    own_class c.args.graph.now c.args.left.now c.requires.size c.requires.effective

pub find_unpaid-returns-then-dollars-eq0-clause-told : goal.find_unpaid-returns-then-dollars-eq0-clause-told
find_unpaid-returns-then-dollars-eq0-clause-told t c =
    let o = option_copied c.args.prices in
    let l = c.args.lost.now in
    rich_pays c.args.graph.now (at c.args.left.now) (paid o l) c.args.room.now c.args.dollars c.size-size.ensures.graph.few
    (paid_rises o l c.args.dollars c.requires.told)
    (λ v below.
    let none : min (slice_index c.args.room.now v) c.args.dollars ≡ 0 = omega (arith, c.if-dollars-eq0.true) in
    omega (arith, ints, c.requires.effective v below, ap (λ (x : ℕ). paid o l v x) none, paid_none o l v))

pub part_box-lacking-init : goal.part_box-lacking-init
part_box-lacking-init t c = record {
  places = c.told-room;
  priced = omega arith;
  class = own_class c.args.graph.now c.args.left.now c.requires.size c.requires.effective;
  small = c.requires.small;
  costs = c.most_costs-costs.ensures;
  lack = c.lack_in_box-lack.ensures;
  tells = λ o told. told;
}

pub part_box-returns-in_default-after_loss-clause-told : goal.part_box-returns-in_default-after_loss-clause-told
part_box-returns-in_default-after_loss-clause-told t c =
    let g = c.args.graph.now in
    let A = at c.lacking.left in
    let v = c.in-Some.v in
    let taken = c.in-Some.taken in
    let o = option_copied c.args.prices in
    let l = c.args.lost.now in
    let l' = set l v (slice_index l v + taken) in
    let lack = rw c.in-Some.is at c.lacking.invariant.lack in
    let few : g.size ≤ 16 = c.size-size.ensures.graph.few in
    let below : v < g.size = omega (arith, lack.0, c.lacking.invariant.class.size) in
    let price : c.from-price.result ≡ paid o l v taken = c.from-price.ensures ∙ c.price_of_more.ensures in
    c.lacking.invariant.tells (Some c.with_more.result)
    (unpaid_beyond g A (paid o l) (paid o l') c.lacking.open c.args.dollars v taken c.with_more.result c.all_at_last.result
    below few (omega (arith, below, few, c.lacking.invariant.places)) (omega (arith, lack.2)) (omega (arith, lack.2))
    (paid_rises o l c.args.dollars c.requires.told)
    (paid_shifted o l v taken c.args.dollars c.requires.told (omega (arith, below, few)) (omega (arith, below, few, c.told-lost)))
    (nothing_unpaid g (minus A (only_at v (pos (paid o l v taken)))) (paid o l')
    (set c.lacking.open v (slice_index c.lacking.open v - taken)) (c.args.dollars - taken) c.all_at_last.result
    (paid_none o l') (c.all_at_last.ensures.places ∙ c.size-size.ensures.size)
    (none_held g.size c.all_at_last.result (rw c.size-size.ensures.size at c.all_at_last.ensures.held)
    (rw c.size-size.ensures.size at c.all_at_last.ensures.empty))
    (rw price at c.in_default-after_loss.ensures))
    (rw c.from.ensures at c.with_more.ensures))

pub part_box-give-requires-clause-range : goal.part_box-give-requires-clause-range
part_box-give-requires-clause-range t c =
    let g = c.args.graph.now in
    let v = c.in-Some.v in
    let form = c.in-Some-after_loss.ensures in
    let below : v < g.size = omega (arith, (rw c.in-Some.is at c.lacking.invariant.lack).0, c.lacking.invariant.class.size) in
    let small : unsigned_abs (at c.in-Some-after_loss.other v) ≤ 32000000 =
    rich_small g.size (at c.in-Some-after_loss.other) 32000000 v form.effective
    (taken_small g (at c.lacking.left) c.in-Some-after_loss.other v c.from-price.result
    c.size-size.ensures.graph.multigraph below c.lacking.invariant.small form)
    below in
    omega arith

pub part_box-lacking-preserved-then-fewer-lack : goal.part_box-lacking-preserved-then-fewer-lack
part_box-lacking-preserved-then-fewer-lack t c =
    let g = c.args.graph.now in
    let form = given_back g (minus (at c.lacking.left) (only_at c.in-Some.v (pos c.from-price.result))) (at c.lacking.left)
    c.in-Some-after_loss.other c.give.new.self c.in-Some.v c.from-price.result c.in-Some-after_loss.ensures
    c.give.ensures.size (λ w. omega (arith, ints)) c.give.ensures.amounts in
    record {
      places = c.lacking.invariant.places;
      priced = c.lacking.invariant.priced;
      class = told_by true g (at c.args.left.now) (at c.lacking.left) c.give.new.self c.lacking.invariant.class.led form;
      small = class_small g (at c.lacking.left) c.give.new.self c.size-size.ensures.graph.multigraph
          c.lacking.invariant.small form;
      costs = c.lacking.invariant.costs;
      lack = c.lack_in_box-fewer.ensures;
      tells = λ o told. c.lacking.invariant.tells o (pays_told o g (at c.lacking.left) (at c.give.new.self)
          (paid (option_copied c.args.prices) c.args.lost.now) c.lacking.open c.args.dollars form.led told);
    }

pub part_box-find_unpaid-requires : goal.part_box-find_unpaid-requires
part_box-find_unpaid-requires t c =
    let g = c.args.graph.now in
    let v = c.in-Some.v in
    let taken = c.in-Some.taken in
    let l = c.args.lost.now in
    let form = c.in-Some-after_loss.ensures in
    let lack = rw c.in-Some.is at c.lacking.invariant.lack in
    let below : v < g.size = omega (arith, lack.0, c.lacking.invariant.class.size) in
    let placed : v < length l = omega (arith, below, c.size-size.ensures.graph.few, c.told-lost) in (
      omega (arith, lack.1, lack.2),
      (
        form.size,
        (
          form.effective,
          (
            taken_small g (at c.lacking.left) c.in-Some-after_loss.other v c.from-price.result
                c.size-size.ensures.graph.multigraph below c.lacking.invariant.small form,
            (
              c.requires.twins,
              (
                omega (arith, c.requires.few),
                (
                  λ u low. ⊎_elim
                      (λ (same : u ≡ v). rw same (omega (
                        arith,
                        get_or-set_same l v (slice_index l v + taken) 0 placed,
                        rw same at (c.requires.lost u low),
                        lack.2,
                      )))
                      (λ (other : u ≡ v → ⊥). omega (
                        arith,
                        get_or-set_other l v u (slice_index l v + taken) 0 other,
                        c.requires.lost u low,
                      ))
                      (cases_eq u v),
                  told_more (option_copied c.args.prices) l c.args.dollars v taken c.requires.told placed
                      (omega (arith, lack.2)),
                ),
              ),
            ),
          ),
        ),
      ),
    )

pub part_box-with_more-requires-in-Ok-Some-clause-few : goal.part_box-with_more-requires-in-Ok-Some-clause-few
part_box-with_more-requires-in-Ok-Some-clause-few t c =
    let v = c.in-Some.v in
    let told = rw c.in-Ok-Some.field-0-is at c.in-Ok-Some.ensures.told in
    let most = in_few c.args.graph.now.size (c.args.dollars - c.in-Some.taken) v
    (set c.lacking.open v (slice_index c.lacking.open v - c.in-Some.taken)) (amounts_of_trial c.in-Ok-Some.trial)
    told.inside (omega (arith, (rw c.in-Some.is at c.lacking.invariant.lack).0, c.lacking.invariant.class.size)) in
    omega (arith, ints, most, c.requires.few)

pub part_box-returns-in-Ok-Some-clause-told : goal.part_box-returns-in-Ok-Some-clause-told
part_box-returns-in-Ok-Some-clause-told t c =
    let g = c.args.graph.now in
    let A = at c.lacking.left in
    let v = c.in-Some.v in
    let taken = c.in-Some.taken in
    let o = option_copied c.args.prices in
    let l = c.args.lost.now in
    let l' = set l v (slice_index l v + taken) in
    let lack = rw c.in-Some.is at c.lacking.invariant.lack in
    let few : g.size ≤ 16 = c.size-size.ensures.graph.few in
    let below : v < g.size = omega (arith, lack.0, c.lacking.invariant.class.size) in
    let price : c.from-price.result ≡ paid o l v taken = c.from-price.ensures ∙ c.price_of_more.ensures in
    c.lacking.invariant.tells (Some c.with_more-in-Ok-Some.result)
    (unpaid_beyond g A (paid o l) (paid o l') c.lacking.open c.args.dollars v taken c.with_more-in-Ok-Some.result
    c.in-Ok-Some.trial below few (omega (arith, below, few, c.lacking.invariant.places)) (omega (arith, lack.2))
    (omega (arith, lack.2)) (paid_rises o l c.args.dollars c.requires.told)
    (paid_shifted o l v taken c.args.dollars c.requires.told (omega (arith, below, few)) (omega (arith, below, few, c.told-lost)))
    (pays_told (Some c.in-Ok-Some.trial) g (minus A (only_at v (pos (paid o l v taken)))) (at c.in-Some-after_loss.other)
    (paid o l') (set c.lacking.open v (slice_index c.lacking.open v - taken)) (c.args.dollars - taken)
    (rw price at c.in-Some-after_loss.ensures).led (rw c.in-Ok-Some.field-0-is at c.in-Ok-Some.ensures.told))
    (rw c.from-in-Ok-Some.ensures at c.with_more-in-Ok-Some.ensures))

pub part_box-give-requires-else-fewer-lack-clause-range : goal.part_box-give-requires-else-fewer-lack-clause-range
part_box-give-requires-else-fewer-lack-clause-range t c =
    let g = c.args.graph.now in
    let v = c.in-Some.v in
    let class = c.find_unpaid.ensures.class in
    let below : v < g.size = omega (arith, (rw c.in-Some.is at c.lacking.invariant.lack).0, c.lacking.invariant.class.size) in
    let small : unsigned_abs (at c.find_unpaid.new.left v) ≤ 32000000 =
    rich_small g.size (at c.find_unpaid.new.left) 32000000 v class.effective
    (class_small g (at c.in-Some-after_loss.other) c.find_unpaid.new.left c.size-size.ensures.graph.multigraph
    (taken_small g (at c.lacking.left) c.in-Some-after_loss.other v c.from-price.result
    c.size-size.ensures.graph.multigraph below c.lacking.invariant.small c.in-Some-after_loss.ensures) class)
    below in
    omega arith

pub part_box-lacking-preserved : goal.part_box-lacking-preserved
part_box-lacking-preserved t c =
    let g = c.args.graph.now in
    let B = at c.lacking.left in
    let v = c.in-Some.v in
    let taken = c.in-Some.taken in
    let o = option_copied c.args.prices in
    let l = c.args.lost.now in
    let l' = set l v (slice_index l v + taken) in
    let j = c.args.dollars in
    let open' = c.lacking.open in
    let lack = rw c.in-Some.is at c.lacking.invariant.lack in
    let few : g.size ≤ 16 = c.size-size.ensures.graph.few in
    let below : v < g.size = omega (arith, lack.0, c.lacking.invariant.class.size) in
    let price : c.from-price.result ≡ paid o l v taken = c.from-price.ensures ∙ c.price_of_more.ensures in
    let form : IsInLinearSystem g B c.lack_in_either-lack.new.left = ⊎_elim
    (λ same. rw same (own_class g c.lacking.left c.lacking.invariant.class.size c.lacking.invariant.class.effective))
    (λ other. rw other (given_back g (minus B (only_at v (pos c.from-price.result))) B c.find_unpaid.new.left
    c.give-else-fewer-lack.new.self v c.from-price.result
    (told_by true g (minus B (only_at v (pos c.from-price.result))) (at c.in-Some-after_loss.other) c.find_unpaid.new.left
    c.in-Some-after_loss.ensures.led c.find_unpaid.ensures.class)
    c.give-else-fewer-lack.ensures.size (λ w. omega (arith, ints)) c.give-else-fewer-lack.ensures.amounts))
    c.lack_in_either-lack.ensures.either in
    let beyond : BoxPays g (minus B (only_at v (pos (paid o l v taken)))) (paid o l')
    (set open' v (slice_index open' v - taken)) (j - taken) =
    pays_told None g (minus B (only_at v (pos (paid o l v taken)))) (at c.in-Some-after_loss.other) (paid o l')
    (set open' v (slice_index open' v - taken)) (j - taken) (rw price at c.in-Some-after_loss.ensures).led
    (rw c.in-Ok-None.field-0-is at c.in-Ok-None.ensures.told) in
    record {
      places = omega (arith, c.lacking.invariant.places);
      priced = omega (arith, c.lacking.invariant.priced);
      class = told_by true g (at c.args.left.now) B c.lack_in_either-lack.new.left c.lacking.invariant.class.led form;
      small = class_small g B c.lack_in_either-lack.new.left c.size-size.ensures.graph.multigraph c.lacking.invariant.small form;
      costs = c.close.ensures.costs j (omega (arith, lack.2)) c.lacking.invariant.costs;
      lack = c.lack_in_either-lack.ensures.lack;
      tells = λ found told. c.lacking.invariant.tells found (pays_closed found g B (paid o l) (paid o l') open'
          c.close.new.room j v taken c.size-size.ensures.graph.multigraph below few
          (omega (arith, below, few, c.lacking.invariant.places)) lack.1 (omega (arith, lack.2))
          (paid_rises o l j c.requires.told)
          (paid_shifted o l v taken j c.requires.told (omega (arith, below, few)) (omega (arith, below, few, c.told-lost)))
          beyond c.close.ensures.closed
          (pays_told found g B (at c.lack_in_either-lack.new.left) (paid o l) c.close.new.room j form.led told));
    }

pub part_box-returns-clause-told : goal.part_box-returns-clause-told
part_box-returns-clause-told t c =
    let o = option_copied c.args.prices in
    let l = c.args.lost.now in
    c.lacking.invariant.tells None (rich_pays c.args.graph.now (at c.lacking.left) (paid o l) c.lacking.open c.args.dollars
    c.size-size.ensures.graph.few (paid_rises o l c.args.dollars c.requires.told)
    (λ u low. (rw c.in_default.is at c.lacking.invariant.lack) u (omega (arith, low, c.lacking.invariant.class.size))))
