use Rattle.dg_rank.proofs.Common.{◌≡◌, ◌-◌, arith}
use Rattle.dg_rank.specs.Numbering.{trial_count}
use Rattle.dg_rank.proofs.Unranking.{sought_first, sought_more, sought_here, sought_last}
use Rattle.dg_rank.proofs.enumeration.first_amount.Goals as goal

pub loop-amount-init : goal.loop-amount-init
loop-amount-init c = sought_first c.args.n c.args.k c.args.i c.requires.number

pub returns-then-rest-fewer-clause-trial : goal.returns-then-rest-fewer-clause-trial
returns-then-rest-fewer-clause-trial c =
    sought_here c.args.n c.args.k c.args.i c.loop-amount.amount c.loop-amount.rest c.loop-amount-test.true
    c.loop-amount.invariant (omega arith)

pub loop-amount-preserved : goal.loop-amount-preserved
loop-amount-preserved c =
    let all : c.capped_trial_count-fewer.result ≡ trial_count c.args.n (c.args.k - c.loop-amount.amount) = omega arith in
    rw all (sought_more c.args.n c.args.k c.args.i c.loop-amount.amount c.loop-amount.rest c.loop-amount-test.true
    c.loop-amount.invariant (omega arith))

pub returns-clause-number : goal.returns-clause-number
returns-clause-number c = (sought_last _ _ _ _ _ (omega arith) c.loop-amount.invariant).number

pub returns-clause-trial : goal.returns-clause-trial
returns-clause-trial c = (sought_last _ _ _ _ _ (omega arith) c.loop-amount.invariant).trial
