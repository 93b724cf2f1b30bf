use Rattle.dg_rank.proofs.Common.{◌≡◌, ℕ, arith, inr, subst, AreTrialsCounted, AnyTrial}
use Rattle.dg_rank.specs.Numbering.{trial_count, nth_trial}
use Rattle.dg_rank.proofs.Numbering.{numbered}
use Rattle.dg_rank.proofs.counting.trials.Goals as goal

pub returns-then-count-gt-MAX_TRIALS : goal.returns-then-count-gt-MAX_TRIALS
returns-then-count-gt-MAX_TRIALS c =
    inr (inr (inr (
      trial_count c.args.n c.args.k,
      omega arith,
      (nth_trial c.args.n c.args.k, numbered c.args.n c.args.k),
    )))

pub returns : goal.returns
returns c =
    let same : trial_count c.args.n c.args.k ≡ c.capped_trial_count-count.result = omega arith in
    record {
      some = omega arith;
      few = omega arith;
      small = omega arith;
      counted = subst (λ (m : ℕ). AreTrialsCounted c.args.n c.args.k AnyTrial m) same
          (nth_trial c.args.n c.args.k, numbered c.args.n c.args.k);
      limit = omega arith;
    }
