use Rattle.dg_cli.proofs.Telling.{found}
use Rattle.dg_cli.proofs.reading.word_in.Goals as goal

pub returns : goal.returns
returns c = rw c.ok_or.ensures.value (found c.text_in.result _ c.text_in.ensures)
