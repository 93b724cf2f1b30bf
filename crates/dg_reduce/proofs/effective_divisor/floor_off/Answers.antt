use Rattle.dg_chips.proofs.VectorLaws.{at_zeros}
use Rattle.dg_reduce.proofs.Common.{◌∙◌, get_or-set_other, replicate, pos, negsuc}
use Rattle.dg_reduce.proofs.effective_divisor.floor_off.Goals as goal

pub returns : goal.returns
returns c = λ v other. get_or-set_other (replicate 16 (pos 0)) c.args.v v (negsuc 2147483647) (pos 0) other ∙ at_zeros 16 v
