use Rattle.dg_table.proofs.Attested.{attested_one}
use Rattle.dg_table.proofs.laws.law_of_attested.Goals as goal

pub returns : goal.returns
returns c = attested_one
