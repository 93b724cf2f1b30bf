use Rattle.dg_graph.proofs.Common.{ap, ◌∙◌, arith}
use Rattle.dg_graph.specs.Sets.{in_set}
use Rattle.dg_graph.proofs.SetLaws.{in_set-none, least_bit}
use Rattle.dg_graph.proofs.sets.least_vertex.Goals as goal

pub returns-then-set-eq0 : goal.returns-then-set-eq0
returns-then-set-eq0 c = λ v. ap (λ m. in_set m v) c.if-set-eq0.true ∙ in_set-none v

pub returns : goal.returns
returns c = least_bit c.args.set (omega arith) c.ranges.set.fits
