use Rattle.dg_theory.proofs.GenusLaws.{reduced_below_genus}
use Rattle.dg_theory.proofs.laws.laws_of_genus.Goals as goal

pub returns : goal.returns
returns c = reduced_below_genus
