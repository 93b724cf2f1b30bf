use Rattle.dg_table.proofs.Findings.{last_after}
use Rattle.dg_table.proofs.laws.law_of_kept_looks.Goals as goal

pub returns : goal.returns
returns c = last_after
