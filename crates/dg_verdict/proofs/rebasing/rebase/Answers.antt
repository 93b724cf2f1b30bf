use Rattle.dg_verdict.proofs.Rebased.{rebased_small, rebased_right}
use Rattle.dg_verdict.proofs.rebasing.rebase.Goals as goal

pub rebased-requires-clause-limit : goal.rebased-requires-clause-limit
rebased-requires-clause-limit c = rebased_small c.args.q c.args.verdict.now c.args.drift.now c.requires

pub returns-clause-right : goal.returns-clause-right
returns-clause-right c = λ g D graph vertex right drift.
    rebased_right g c.args.q D c.args.verdict.now c.args.drift.now c.rebased.result vertex right drift
    c.rebased.ensures.size
    c.rebased.ensures.entries
