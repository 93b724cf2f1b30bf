use Rattle.dg_theory.proofs.Burnings.{loss_iff_burns}
use Rattle.dg_theory.proofs.laws.law_of_burning_losses.Goals as goal

pub returns : goal.returns
returns c = loss_iff_burns
