use Rattle.dg_graph.proofs.SetLaws.{complement_bits}
use Rattle.dg_graph.proofs.sets.complement.Goals as goal

pub returns : goal.returns
returns c = λ v. complement_bits c.args.size c.args.set v c.requires.few c.ranges.set.fits
