use Rattle.dg_sweep.proofs.OneAnswer.{amounts_answer_is_unique}
use Rattle.dg_sweep.proofs.laws.amounts_answer_is_unique.Goals as goal

pub returns : goal.returns
returns c = amounts_answer_is_unique
