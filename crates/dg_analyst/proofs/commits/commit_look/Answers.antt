use Rattle.dg_analyst.proofs.Common.{rules, refl}
use Rattle.dg_analyst.proofs.commits.commit_look.Goals as goal

pub returns-clause-settled : goal.returns-clause-settled
returns-clause-settled g c = (
  record { look = c.args.look.now; verdict = c.judge_with_inverse-verdict.result },
  record { look = refl; judged = search rules },
  search rules,
)
