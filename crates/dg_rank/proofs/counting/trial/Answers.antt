use Rattle.dg_rank.proofs.Common.{◌≡◌, ℕ, List, length, arith, subst, IsTrial, HoldsTrial}
use Rattle.dg_rank.specs.Numbering.{trial_count, nth_trial}
use Rattle.dg_rank.proofs.Numbering.{counted_before, limits_count, limits_trial}
use Rattle.dg_rank.proofs.counting.trial.Goals as goal

pub to_divisor-requires : goal.to_divisor-requires
to_divisor-requires c =
    let (count, limits, small) = c.requires in
    rw c.nth.ensures (omega (
      arith,
      (limits_trial c.args.n c.args.k count c.args.i limits small).amount,
      limits.small,
    ))

pub returns : goal.returns
returns c =
    let (count, limits, small) = c.requires in
    let all : count ≡ trial_count c.args.n c.args.k = limits_count c.args.n c.args.k count limits in
    let trial : IsTrial c.args.n c.args.k (nth_trial c.args.n c.args.k c.args.i) =
    limits_trial c.args.n c.args.k count c.args.i limits small in
    let held : HoldsTrial (length (nth_trial c.args.n c.args.k c.args.i))
    (nth_trial c.args.n c.args.k c.args.i) c.to_divisor.result =
    subst (λ (E : List ℕ). HoldsTrial (length E) E c.to_divisor.result) c.nth.ensures
    c.to_divisor.ensures in
    record {
      amounts = nth_trial c.args.n c.args.k c.args.i;
      trial = trial;
      held = subst (λ (m : ℕ). HoldsTrial m (nth_trial c.args.n c.args.k c.args.i) c.to_divisor.result) trial.places
          held;
      before = counted_before c.args.n c.args.k c.args.i (omega arith);
    }
