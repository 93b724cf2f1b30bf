use Rattle.dg_rank.proofs.Common.{◌≡◌, ◌-◌, ◌<◌, ℕ, arith, subst, sym, ◌∙◌, refl, set, take, ◌++◌, length-take-le}
use Rattle.dg_rank.specs.Numbering.{trial_count, nth_trial}
use Rattle.dg_rank.proofs.Numbering.{limits_count}
use Rattle.dg_rank.proofs.Unranking.{last_amount}
use Rattle.dg_rank.proofs.enumeration.Trial.nth.Goals as goal

pub loop-v-init : goal.loop-v-init
loop-v-init c =
    let (count, limits, small) = c.requires in
    let all : count ≡ trial_count c.args.n c.args.k = limits_count c.args.n c.args.k count limits in
    let whole : c.args.n - 0 ≡ c.args.n = omega arith in
    rw whole (record {
      places = length-take-le c.args.n _ limits.few;
      trial = refl;
      counted = omega arith;
      amount = limits.small;
      number = omega (arith, limits.limit);
    })

pub returns : goal.returns
returns c =
    let (count, limits, small) = c.requires in
    let at_last : c.loop-v.v ≡ c.args.n - 1 = omega (arith, limits.some) in
    let filled : set c.loop-v.trial (c.args.n - 1) c.loop-v.left
    ≡ take (c.args.n - 1) c.loop-v.trial ++ nth_trial (c.args.n - (c.args.n - 1)) c.loop-v.left c.loop-v.number =
    last_amount c.args.n c.loop-v.left c.loop-v.number c.loop-v.trial limits.some c.loop-v.invariant.places
    (subst (λ (v : ℕ). c.loop-v.number < trial_count (c.args.n - v) c.loop-v.left) at_last c.loop-v.invariant.counted)
    in
    let whole : nth_trial c.args.n c.args.k c.args.i
    ≡ take (c.args.n - 1) c.loop-v.trial ++ nth_trial (c.args.n - (c.args.n - 1)) c.loop-v.left c.loop-v.number =
    subst (λ (v : ℕ). nth_trial c.args.n c.args.k c.args.i
    ≡ take v c.loop-v.trial ++ nth_trial (c.args.n - v) c.loop-v.left c.loop-v.number)
    at_last c.loop-v.invariant.trial in
    c.set-2.ensures ∙ filled ∙ sym whole
