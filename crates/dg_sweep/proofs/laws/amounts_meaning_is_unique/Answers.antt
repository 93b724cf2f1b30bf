use Rattle.dg_sweep.proofs.OneMeaning.{amounts_meaning_is_unique}
use Rattle.dg_sweep.proofs.laws.amounts_meaning_is_unique.Goals as goal

pub returns : goal.returns
returns c = amounts_meaning_is_unique
