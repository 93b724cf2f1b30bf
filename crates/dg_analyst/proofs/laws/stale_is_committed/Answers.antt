use Rattle.dg_analyst.proofs.Staleness.{stale_is_committed, stale_rank_is_committed}
use Rattle.dg_analyst.proofs.laws.stale_is_committed.Goals as goal

pub returns-clause-judged : goal.returns-clause-judged
returns-clause-judged c = stale_is_committed

pub returns-clause-ranked : goal.returns-clause-ranked
returns-clause-ranked c = stale_rank_is_committed
