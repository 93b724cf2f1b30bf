use Rattle.dg_rank.proofs.Common.{◌≡◌, ◌+◌, ◌*◌, ◌/◌, ◌≤◌, arith, sym}
use Rattle.dg_rank.specs.Numbering.{trial_count}
use Rattle.dg_rank.proofs.Pascal.{one_place, count_grows, count_next}
use Rattle.dg_rank.proofs.counting.capped_trial_count.Goals as goal

pub loop-places-init : goal.loop-places-init
loop-places-init c = record { count = sym (one_place c.args.k); limit = omega arith }

pub returns-then-count-from : goal.returns-then-count-from
returns-then-count-from c =
    let next : c.loop-places.count * (c.from.result + c.loop-places.places) / c.loop-places.places
    ≡ trial_count (c.loop-places.places + 1) c.args.k =
    rw (c.loop-places.invariant.count, c.from.ensures) (count_next c.loop-places.places c.args.k (omega arith)) in
    let more : trial_count (c.loop-places.places + 1) c.args.k ≤ trial_count c.args.n c.args.k =
    count_grows (c.loop-places.places + 1) c.args.n c.args.k (omega arith) in
    omega arith

pub loop-places-preserved : goal.loop-places-preserved
loop-places-preserved c = record {
  count = rw (c.loop-places.invariant.count, c.from.ensures) (count_next c.loop-places.places c.args.k (omega arith));
  limit = omega arith;
}
